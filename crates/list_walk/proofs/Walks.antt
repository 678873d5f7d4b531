-- Laws of the walk to the word that covers a group: what it finds, and when it finds. Assumes nothing.
use Rattle.std.specs.Prelude.{Option, Some}
use mathlib.Core.Path.{◌≡◌, refl, ◌∙◌, ap, sym, subst}
use mathlib.Core.Logic.{⊎_elim, by_cases}
use mathlib.Core.List.{List}
use Prim.Native.Nat.{ℕ, zero, suc, ◌+◌, ◌-◌, ◌<◌, ◌≤◌, min, zero-le}
use native.Mathlib.Decide.{dec_lt}
use native.Mathlib.Nat.{add-zero}
use native.Mathlib.Omega.{arith}
use lib.ListN.{length, get_or, take, drop}
use lib.Seq.{get_or-drop}
use Rattle.words.specs.Words.{run_of, span, group_in, decode}
use Rattle.words.proofs.Forms.{run_at, length_split, length_from, length_upto, decode_end}
use Rattle.lists.specs.Inner.{Filled}
use Rattle.list_walk.specs.Walk.{walk_to}
use Rattle.list_walk.specs.declared.walk.Covering.{Covering}
use Rattle.lists.proofs.Covering.{group_at, group_rest, length_rest, filled_drop}
use Rattle.list_walk.proofs.walk.Steps.{walk_from, cover_at, starts, ends, covers, passes, not_covered, found_early, found_paid, here_or_later}

-- ---- what is found

-- a word that a walk found: the last of those opened, it stands for the group sought and for those after it that it covers too
pub record Found (list : List ℕ) (first group budget : ℕ) (c : Covering) : Type 0 where
  pub started : first ≤ group
  pub some : 0 < c.opened
  pub paid : c.opened ≤ budget
  pub few : c.opened ≤ length list
  pub place : c.word ≡ get_or list (c.opened - 1) 0
  pub inside : group - first + c.beyond < length (decode list)
  pub same : (k : ℕ) → k ≤ c.beyond → get_or (decode list) (group - first + k) 0 ≡ group_in (run_of c.word)

module _ (list : List ℕ) (first group budget : ℕ) (early : first ≤ group) where
  -- the groups that are still to be skipped at place i
  abbrev Skips : ℕ → ℕ → Type 0
  Skips i skip = length (decode (take i list)) + skip ≡ group - first

  found_at : (i skip : ℕ) → i < length list → i < budget → Skips i skip → skip < span (run_at list i)
      → Found list first group budget (cover_at list i skip)
  found_at i skip l b s near =
      let before = length (decode (take i list)) in
      let last : i + 1 - 1 ≡ i = omega arith in
      record {
        started = early;
        some = omega arith;
        paid = omega arith;
        few = omega arith;
        place = rw last refl;
        inside = omega (arith, length_split list i, length_from list i l);
        same = λ k behind.
            let there : group - first + k ≡ before + (skip + k) = omega arith in
            rw there (group_at list i before refl (skip + k) l (omega arith));
      }

  reached : (left i skip : ℕ) (c : Covering) → length list ≡ i + left → Skips i skip → walk_from list budget i skip ≡ Some c
      → Found list first group budget c
  reached zero i skip c l s e = absurd (not_covered (sym (ends list budget i skip (omega arith)) ∙ e))
  reached (suc left) i skip c l s e =
      let h : i < length list = omega arith in
      ⊎_elim
      (λ here. subst (Found list first group budget) here.1 (found_at i skip h (found_paid list budget i skip c h e) s here.0))
      (λ later. reached left (i + 1) (skip - span (run_at list i)) c (omega arith) (omega (arith, length_upto list i h)) later.1)
      (here_or_later list budget i skip c h e)

-- THEOREM: a walk that finds a word has found, within its budget, the one that covers the group sought
pub found : (list : List ℕ) (first group budget : ℕ) (c : Covering) → walk_to list first group budget ≡ Some c → Found list first group budget c
found list first group budget c e =
    let early = found_early list first group budget c e in
    reached list first group budget early (length list) 0 (group - first) c (omega arith) (omega arith) (sym (starts list first group budget early) ∙ e)

-- the word found stands for the group sought
pub found_group : (list : List ℕ) (first group budget : ℕ) (c : Covering) → walk_to list first group budget ≡ Some c
    → group_in (run_of c.word) ≡ get_or (decode list) (group - first) 0
found_group list first group budget c e = sym (rw add-zero at ((found list first group budget c e).same 0 zero-le))

-- THEOREM: a walk from the word at place i finds the group of the whole list
pub found_from : (list : List ℕ) (i first group budget : ℕ) (c : Covering) → first ≡ length (decode (take i list))
    → walk_to (drop i list) first group budget ≡ Some c → group_in (run_of c.word) ≡ get_or (decode list) group 0
found_from list i first group budget c f e =
    found_group (drop i list) first group budget c e ∙ group_rest list i first f group (found (drop i list) first group budget c e).started

-- ---- when it is found

-- a walk that finds its word, with at most so many words opened
pub record Finds (walk : Option Covering) (most : ℕ) : Type 0 where
  pub covering : Covering
  pub found : walk ≡ Some covering
  pub few : covering.opened ≤ most

finds_same : {walk other : Option Covering} {most more : ℕ} → walk ≡ other → most ≤ more → Finds other most → Finds walk more
finds_same e h finds = record { covering = finds.covering; found = e ∙ finds.found; few = omega arith }

module _ (list : List ℕ) (budget : ℕ) (filled : Filled list) where
  -- from place i on, if the word there covers a group that is at most `ahead` groups before the one sought
  reaches : (left i skip ahead : ℕ) → length list ≡ i + left → (i < length list → skip < ahead + span (run_at list i))
      → skip < length (decode (drop i list)) → i + min (ahead + 1) left ≤ budget → Finds (walk_from list budget i skip) (i + ahead + 1)
  reaches zero i skip ahead l a s b = absurd (omega (arith, ap length (decode_end list i (omega arith))))
  reaches (suc left) i skip ahead l a s b =
      let h : i < length list = omega arith in
      let p : i < budget = omega arith in
      let wide = span (run_at list i) in
      let some : wide ≡ 0 → ⊥ = λ e. omega (arith, filled i h) in
      by_cases (dec_lt skip wide)
      (λ near. record { covering = cover_at list i skip; found = covers list budget i skip h p near; few = omega arith })
      (λ far. finds_same (passes list budget i skip h p some (omega (arith, far))) (omega (arith, far, a h))
      (reaches left (i + 1) (skip - wide) (skip - wide) (omega arith) (λ next. omega (arith, filled (i + 1) next))
      (omega (arith, far, length_from list i h)) (omega (arith, far, a h))))

  finds_ahead : (first group ahead : ℕ) → first ≤ group → group - first < length (decode list)
      → (0 < length list → group - first < ahead + span (run_at list 0)) → min (ahead + 1) (length list) ≤ budget
      → Finds (walk_to list first group budget) (ahead + 1)
  finds_ahead first group ahead early inside a b =
      finds_same (starts list first group budget early) (omega arith)
      (reaches (length list) 0 (group - first) ahead (omega arith) a inside (omega arith))

  -- THEOREM: a walk finds its word if the budget has a word for each group up to the one sought, or for each word of the list
  pub finds : (first group : ℕ) → first ≤ group → group - first < length (decode list) → min (group - first + 1) (length list) ≤ budget
      → Finds (walk_to list first group budget) (group - first + 1)
  finds first group early inside b = finds_ahead first group (group - first) early inside (λ h. omega (arith, filled 0 h)) b

-- THEOREM: a walk from the word at place i finds its word if that word covers a group less than the budget before the one sought
pub finds_from : (list : List ℕ) (budget i first near group : ℕ) → Filled list → first ≡ length (decode (take i list))
    → first ≤ near → near < first + span (run_at list i) → near ≤ group → group < near + budget → group < length (decode list)
    → Finds (walk_to (drop i list) first group budget) (group - near + 1)
finds_from list budget i first near group filled f begins covered behind close inside =
    let word : get_or (drop i list) 0 0 ≡ get_or list i 0 = rw (get_or-drop, add-zero) refl in
    finds_ahead (drop i list) budget (filled_drop i list filled) first group (group - near) (omega arith)
    (omega (arith, length_rest list i first f)) (λ h. rw word (omega arith)) (omega arith)
