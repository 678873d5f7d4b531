-- `walk_to` meets its contract. The loop's invariant: the walk asked for is the one from the word at hand on, with `skip` groups to pass. Assumes nothing.
use mathlib.Core.Path.{◌≡◌, ◌∙◌, sym}
use mathlib.Core.List.{List}
use Prim.Native.Nat.{ℕ, min, ◌+◌, ◌-◌, ◌<◌, ◌≤◌}
use native.Mathlib.Omega.{arith}
use lib.ListN.{length, get_or, take}
use lib.Seq.{length-take-le, get_or-take}
use Rattle.std.specs.Prelude.{Some, None}
use Rattle.words.specs.Words.{run_of, span}
use Rattle.list_walk.proofs.walk.Steps.{walk_from, starts_late, starts, stops, counts_none, covers, passes}
use Rattle.list_walk.proofs.walk.walk_to.Goals as goal

module _ (list : List ℕ) (budget most : ℕ) (cut : most ≡ min budget (length list)) where
  -- a word of those that the budget allows is opened: the word at place i, which covers so many groups
  module _ (i skip wide : ℕ) (h : i < length (take most list)) (covers_wide : wide ≡ span (run_of (get_or (take most list) i 0))) where
    within : (i < length list) × (i < budget)
    within = (omega (arith, length-take-le most list (omega arith)), omega (arith, length-take-le most list (omega arith)))

    same : get_or (take most list) i 0 ≡ get_or list i 0
    same = get_or-take most list i 0 (omega (arith, length-take-le most list (omega arith)))

    wide_here : wide ≡ span (run_of (get_or list i 0))
    wide_here = rw same at covers_wide

    no_groups : wide ≡ 0 → walk_from list budget i skip ≡ None
    no_groups none = counts_none list budget i skip within.0 within.1 (sym wide_here ∙ none)

    near : skip < wide
        → walk_from list budget i skip ≡ Some (record { word = get_or (take most list) i 0; beyond = wide - 1 - skip; opened = i + 1 })
    near h = rw (same, wide_here) (covers list budget i skip within.0 within.1 (rw wide_here at h))

    far : (wide ≡ 0 → ⊥) → wide ≤ skip → walk_from list budget i skip ≡ walk_from list budget (i + 1) (skip - wide)
    far some h = rw wide_here (passes list budget i skip within.0 within.1 (rw wide_here at some) (rw wide_here at h))

  no_more : (i skip : ℕ) → length (take most list) ≤ i → walk_from list budget i skip ≡ None
  no_more i skip h = stops list budget i skip (omega (arith, length-take-le most list (omega arith)))

pub returns-then-group-first : goal.returns-then-group-first
returns-then-group-first c =
    let args = c.args in
    sym (starts_late args.list.now args.first args.group args.budget c.if-group-first.true)

pub loop-place-init : goal.loop-place-init
loop-place-init c =
    let args = c.args in
    starts args.list.now args.first args.group args.budget c.if-group-first.false

pub returns-then-span-eq0 : goal.returns-then-span-eq0
returns-then-span-eq0 c =
    let at = c.loop-place in
    sym (at.invariant ∙ no_groups c.args.list.now _ _ c.min-most.ensures _ at.skip _ c.loop-place-test.true c.span_of-span.ensures c.if-span-eq0.true)

pub returns-then-skip-span : goal.returns-then-skip-span
returns-then-skip-span c =
    let at = c.loop-place in
    sym (at.invariant ∙ near c.args.list.now _ _ c.min-most.ensures _ at.skip _ c.loop-place-test.true c.span_of-span.ensures c.if-skip-span.true)

pub loop-place-preserved : goal.loop-place-preserved
loop-place-preserved c =
    let at = c.loop-place in
    at.invariant
    ∙ far c.args.list.now _ _ c.min-most.ensures _ at.skip _ c.loop-place-test.true c.span_of-span.ensures
    c.if-span-eq0.false c.if-skip-span.false

pub returns : goal.returns
returns c =
    let at = c.loop-place in
    sym (at.invariant ∙ no_more c.args.list.now _ _ c.min-most.ensures _ at.skip c.loop-place-test.false)
