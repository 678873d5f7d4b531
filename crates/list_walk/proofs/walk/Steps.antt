-- The walk a word at a time: how it starts, how it ends, and what it does with the next word. Assumes nothing.
use Rattle.std.specs.Prelude.{Option, Some, None}
use mathlib.Core.Path.{◌≡◌, refl, ◌∙◌, sym}
use mathlib.Core.Bool.{cond}
use mathlib.Core.Logic.{◌⊎◌, inl, inr, by_cases}
use mathlib.Core.List.{List}
use Prim.Native.Nat.{ℕ, suc, min, ◌+◌, ◌-◌, ◌<◌, ◌≤◌}
use native.Mathlib.Decide.{dec_lt}
use native.Mathlib.Nat.{sub-zero}
use native.Mathlib.Numerals.{add-one}
use native.Mathlib.Omega.{arith}
use lib.Dec.{ltb, eqb}
use lib.ListN.{length, get_or, drop, drop_of_length-le}
use lib.Seq.{drop-cons}
use borrow.Author.Tests.{lt-ltb, le-ltb, eq-eqb, ne_eqb}
use Rattle.words.specs.Words.{span}
use Rattle.words.proofs.Forms.{run_at}
use Rattle.list_walk.specs.Walk.{walk, walk_to}
use Rattle.list_walk.specs.declared.walk.Covering.{Covering}

-- the walk from place i on, when i words have been opened
abbrev pub walk_from : List ℕ → ℕ → ℕ → ℕ → Option Covering
walk_from list budget i skip = walk (budget - i) (drop i list) skip i

-- the answer where the word at place i covers the group
abbrev pub cover_at : List ℕ → ℕ → ℕ → Covering
cover_at list i skip = record { word = get_or list i 0; beyond = span (run_at list i) - 1 - skip; opened = i + 1 }

-- ---- the start

module _ (list : List ℕ) (first group budget : ℕ) where
  pub starts_late : group < first → walk_to list first group budget ≡ None
  unfolding walk_to
  starts_late h = rw (lt-ltb group first h) refl

  pub starts : first ≤ group → walk_to list first group budget ≡ walk_from list budget 0 (group - first)
  unfolding walk_to
  starts h = rw (le-ltb group first h, sub-zero) refl

-- ---- no word is opened at place i: the list ends there, or the budget is spent

module _ (list : List ℕ) (budget i skip : ℕ) where
  pub ends : length list ≤ i → walk_from list budget i skip ≡ None
  ends h = rw (drop_of_length-le list h) refl

  pub spends : i < length list → budget ≤ i → walk_from list budget i skip ≡ None
  spends h b =
      let none : budget - i ≡ 0 = omega arith in
      rw (none, drop-cons list i 0 h) refl

  pub stops : min budget (length list) ≤ i → walk_from list budget i skip ≡ None
  stops h = by_cases (dec_lt i (length list)) (λ within. spends within (omega (arith, h, within))) (λ past. ends (omega (arith, past)))

-- ---- the word at place i is opened: its fill counts 0, it covers the group, or it is passed

module _ (list : List ℕ) (budget i skip : ℕ) (h : i < length list) (b : i < budget) where
  opens : walk_from list budget i skip
      ≡ cond (eqb (span (run_at list i)) 0) None
      (cond (ltb skip (span (run_at list i)))
      (Some (cover_at list i skip))
      (walk_from list budget (i + 1) (skip - span (run_at list i))))
  opens =
      let one : budget - i ≡ suc (budget - (i + 1)) = omega arith in
      rw (one, drop-cons list i 0 h, add-one) refl

  pub counts_none : span (run_at list i) ≡ 0 → walk_from list budget i skip ≡ None
  counts_none none = opens ∙ rw (eq-eqb (span (run_at list i)) 0 none) refl

  pub covers : skip < span (run_at list i) → walk_from list budget i skip ≡ Some (cover_at list i skip)
  covers near = opens ∙ rw (ne_eqb (span (run_at list i)) 0 (λ e. omega arith), lt-ltb skip (span (run_at list i)) near) refl

  pub passes : (span (run_at list i) ≡ 0 → ⊥) → span (run_at list i) ≤ skip
      → walk_from list budget i skip ≡ walk_from list budget (i + 1) (skip - span (run_at list i))
  passes some far = opens ∙ rw (ne_eqb (span (run_at list i)) 0 some, le-ltb skip (span (run_at list i)) far) refl

-- ---- the same backwards: a walk that found its word

pub not_covered : {c : Covering} → None ≡ Some c → ⊥
not_covered e = let z : ◌≡◌ {A = ℕ} 0 1 = cc in omega arith

same_covering : {c d : Covering} → Some c ≡ Some d → c ≡ d
same_covering e = cc

pub found_early : (list : List ℕ) (first group budget : ℕ) (c : Covering) → walk_to list first group budget ≡ Some c → first ≤ group
found_early list first group budget c e =
    by_cases (dec_lt group first)
    (λ late. absurd (not_covered (sym (starts_late list first group budget late) ∙ e)))
    (λ early. omega (arith, early))

module _ (list : List ℕ) (budget i skip : ℕ) (c : Covering) (h : i < length list) (e : walk_from list budget i skip ≡ Some c) where
  pub found_paid : i < budget
  found_paid =
      by_cases (dec_lt i budget)
      (λ b. b)
      (λ spent. absurd (not_covered (sym (spends list budget i skip h (omega (arith, spent))) ∙ e)))

  pub counts_some : span (run_at list i) ≡ 0 → ⊥
  counts_some none = not_covered (sym (counts_none list budget i skip h found_paid none) ∙ e)

  -- the word found is the one at place i, or it is found from the next place on
  pub here_or_later : ((skip < span (run_at list i)) × (cover_at list i skip ≡ c))
      ⊎ ((span (run_at list i) ≤ skip) × (walk_from list budget (i + 1) (skip - span (run_at list i)) ≡ Some c))
  here_or_later =
      by_cases (dec_lt skip (span (run_at list i)))
      (λ near. inl (near, same_covering (sym (covers list budget i skip h found_paid near) ∙ e)))
      (λ far. inr (omega (arith, far), sym (passes list budget i skip h found_paid counts_some (omega (arith, far))) ∙ e))
