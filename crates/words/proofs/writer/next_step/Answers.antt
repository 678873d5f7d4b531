-- `next_step` takes in a group as often as it comes: a uniform one as `step_fill` does, any other, which comes once, as `step_literal` does.
use mathlib.Core.Path.{◌≡◌, sym, subst}
use Prim.Native.Nat.{ℕ}
use native.Mathlib.Omega.{arith}
use lib.ListN.{replicate}
use Rattle.words.specs.Inner.{Takes}
use Rattle.words.proofs.writer.next_step.Goals as goal

pub returns-then-group-eq0 : goal.returns-then-group-eq0
returns-then-group-eq0 c = rw c.if-group-eq0.true c.step_fill.ensures

pub returns-then-group-eq-ALL_ONES : goal.returns-then-group-eq-ALL_ONES
returns-then-group-eq-ALL_ONES c =
    let s = c.step_fill-then-group-eq-ALL_ONES in
    subst (λ (group : ℕ). Takes c.args.pending (replicate c.args.count group) s.result) (sym c.if-group-eq-ALL_ONES.true) s.ensures

pub step_literal-requires : goal.step_literal-requires
step_literal-requires c = (omega arith, omega arith, c.if-group-eq0.false, c.if-group-eq-ALL_ONES.false)

pub returns : goal.returns
returns c =
    let once : c.args.count ≡ 1 = omega (arith, c.requires.3 c.if-group-eq0.false c.if-group-eq-ALL_ONES.false) in
    rw once c.step_literal.ensures
