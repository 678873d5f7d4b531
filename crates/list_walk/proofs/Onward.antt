-- The walk to a later group goes on from the word that covers an earlier one. Assumes nothing.
use Rattle.std.specs.Prelude.{Option, Some}
use mathlib.Core.Path.{◌≡◌, refl, ◌∙◌, sym}
use mathlib.Core.Logic.{⊎_elim}
use mathlib.Core.List.{List}
use Prim.Native.Nat.{ℕ, zero, suc, ◌+◌, ◌-◌, ◌<◌, ◌≤◌}
use native.Mathlib.Omega.{arith}
use lib.ListN.{length}
use Rattle.words.specs.Words.{span}
use Rattle.words.proofs.Forms.{run_at}
use Rattle.list_walk.specs.Walk.{walk_to}
use Rattle.list_walk.specs.declared.walk.Covering.{Covering}
use Rattle.list_walk.proofs.walk.Steps.{walk_from, cover_at, starts, ends, covers, passes, not_covered, found_early, found_paid, counts_some, here_or_later}

-- the same word, with some of its groups passed
abbrev nearer : Covering → ℕ → Covering
nearer c skip = record { word = c.word; beyond = c.beyond - skip; opened = c.opened }

-- what the walk to a group `skip` groups further on finds: the same word, or what it finds from the next word on
abbrev GoesOn : List ℕ → ℕ → Covering → ℕ → Option Covering → Type 0
GoesOn list budget c skip walk =
    (skip ≤ c.beyond → walk ≡ Some (nearer c skip)) × (skip ≡ c.beyond + 1 → walk ≡ walk_from list budget c.opened 0)

module _ (list : List ℕ) (budget skip : ℕ) where
  -- the word at place i covers the group
  here : (i passed : ℕ) → i < length list → i < budget → passed < span (run_at list i)
      → GoesOn list budget (cover_at list i passed) skip (walk_from list budget i (passed + skip))
  here i passed h b near = (
    λ within.
        let rest : span (run_at list i) - 1 - (passed + skip) ≡ span (run_at list i) - 1 - passed - skip = omega arith in
        covers list budget i (passed + skip) h b (omega arith) ∙ rw rest refl,
    λ behind.
        let none : passed + skip - span (run_at list i) ≡ 0 = omega arith in
        passes list budget i (passed + skip) h b (λ e. omega arith) (omega arith) ∙ rw none refl,
  )

  onward : (left i passed : ℕ) (c : Covering) → length list ≡ i + left → walk_from list budget i passed ≡ Some c
      → GoesOn list budget c skip (walk_from list budget i (passed + skip))
  onward zero i passed c l e = absurd (not_covered (sym (ends list budget i passed (omega arith)) ∙ e))
  onward (suc left) i passed c l e =
      let h : i < length list = omega arith in
      let b = found_paid list budget i passed c h e in
      ⊎_elim
      (λ near. rw (← near.1) (here i passed h b near.0))
      (λ later.
      let far : passed + skip - span (run_at list i) ≡ passed - span (run_at list i) + skip = omega (arith, later.0) in
      let on = onward left (i + 1) (passed - span (run_at list i)) c (omega arith) later.1 in
      rw (passes list budget i (passed + skip) h b (counts_some list budget i passed c h e) (omega (arith, later.0)), far) on)
      (here_or_later list budget i passed c h e)

module _ (list : List ℕ) (first group budget : ℕ) (c : Covering) (e : walk_to list first group budget ≡ Some c) (skip : ℕ) where
  goes_on : GoesOn list budget c skip (walk_to list first (group + skip) budget)
  goes_on =
      let early = found_early list first group budget c e in
      let past : group + skip - first ≡ group - first + skip = omega arith in
      rw (starts list first (group + skip) budget (omega arith), past)
      (onward list budget skip (length list) 0 (group - first) c (omega arith) (sym (starts list first group budget early) ∙ e))

  -- THEOREM: a group that the same word covers is found there
  pub on_same : skip ≤ c.beyond → walk_to list first (group + skip) budget ≡ Some (nearer c skip)
  on_same h = goes_on.0 h

  -- THEOREM: the group after those that the word covers is the first of what is found from the next word on
  pub on_next : skip ≡ c.beyond + 1 → walk_to list first (group + skip) budget ≡ walk_from list budget c.opened 0
  on_next h = goes_on.1 h
