-- Groups that are not all ones after groups without a 1: the step that takes one in, its words written without a branch, and the test for them. Assumes nothing.
use mathlib.Core.Path.{◌≡◌, refl, ◌∙◌, ap, sym, subst}
use mathlib.Core.Bool.{Bool, true, false, not, cond, ◌&&◌, ◌||◌, and-true, and-eq-true_iff}
use mathlib.Core.List.{List, [], ◌∷◌}
use Prim.Native.Nat.{ℕ, zero, suc, ◌+◌, ◌*◌, ◌<◌, ◌≤◌}
use native.Mathlib.Nat.{add-zero, zero-mul, mul-zero}
use native.Mathlib.Numerals.{add-one}
use native.Mathlib.Omega.{arith}
use lib.Dec.{eqb}
use lib.ListN.{length, get_or, set, drop, drop_of_length-le}
use lib.Seq.{sets, set-set, set-get_or, drop-cons}
use borrow.Author.Tests.{eqb-true, eqb-false, ne_eqb, not-true}
use Rattle.words.specs.Words.{fill, word_of, all_ones, encode}
use Rattle.words.specs.Inner.{written, Takes}
use Rattle.words.specs.declared.writer.Pending.{Pending}
use Rattle.words.specs.declared.writer.Step.{Step}
use Rattle.words.proofs.Runs.{ends_run, literal_word, joins}
use Rattle.load_list.specs.Inner.{zeros_pending, step_of, sparse_step, none_full}

module _ (zeros group : ℕ) (dense : group ≡ all_ones → ⊥) where
  pub sparse_takes : Takes (zeros_pending zeros) (group ∷ []) (sparse_step zeros group)
  sparse_takes = go (eqb group 0) refl (eqb zeros 0) refl
    where
      go : (none : Bool) → eqb group 0 ≡ none → (first : Bool) → eqb zeros 0 ≡ first → Takes (zeros_pending zeros) (group ∷ []) (sparse_step zeros group)
      go true e first f =
          let zero : group ≡ 0 = eqb-true group 0 e in
          rw zero
          (record { law = λ rest. ap encode (joins 0 zeros 1 rest); few = omega arith; is_bit = omega arith; grows = omega arith })
      go false e true f =
          let none : zeros ≡ 0 = eqb-true zeros 0 f in
          rw (e, none)
          (record { law = λ rest. literal_word group rest (eqb-false group 0 e) dense; few = omega arith; is_bit = omega arith; grows = omega arith })
      go false e false f =
          rw (e, f)
          (record {
            law = λ rest.
                ends_run 0 zeros group rest (omega arith) (omega (arith, eqb-false zeros 0 f)) (eqb-false group 0 e)
                ∙ rw (literal_word group rest (eqb-false group 0 e) dense) refl;
            few = omega arith;
            is_bit = omega arith;
            grows = omega arith;
          })

-- a pending run that is one of groups without a 1
pub zeros-run : (pending : Pending) → pending.bit ≡ 0 → pending ≡ zeros_pending pending.count
zeros-run pending e = ap (λ (bit : ℕ). record { bit = bit; count = pending.count }) e

pub sparse_taken : (pending : Pending) (group : ℕ) → pending.bit ≡ 0 → (group ≡ all_ones → ⊥) → Takes pending (group ∷ []) (sparse_step pending.count group)
sparse_taken pending group e dense =
    subst (λ (run : Pending). Takes run (group ∷ []) (sparse_step run.count group)) (sym (zeros-run pending e)) (sparse_takes pending.count group dense)

-- what is pending then are groups without a 1
pub sparse_pending : (zeros group count : ℕ) → count ≡ (sparse_step zeros group).pending.count → zeros_pending count ≡ (sparse_step zeros group).pending
sparse_pending zeros group count e = ap zeros_pending e ∙ go (eqb group 0) (eqb zeros 0)
  where
    step : Bool → Bool → Step
    step none first = cond none (step_of 0 0 0 (zeros + 1)) (cond first (step_of 1 group 0 0) (step_of 2 (word_of (fill 0 zeros)) group 0))

    go : (none first : Bool) → zeros_pending (step none first).pending.count ≡ (step none first).pending
    go true first = refl
    go false true = refl
    go false false = refl

-- a group with a 1 ends the run
pub run_ended : (zeros group : ℕ) → (group ≡ 0 → ⊥) → 0 ≡ (sparse_step zeros group).pending.count
run_ended zeros group some = rw (ne_eqb group 0 some) (go (eqb zeros 0))
  where
    go : (first : Bool) → 0 ≡ (cond first (step_of 1 group 0 0) (step_of 2 (word_of (fill 0 zeros)) group 0)).pending.count
    go true = refl
    go false = refl

-- both words are written, and then counted
module _ (out : List ℕ) (at zeros group held run word : ℕ) (h : held ≡ cond (eqb group 0) 0 1) (r : run ≡ cond (eqb zeros 0) 0 1)
    (w : word ≡ word_of (fill 0 zeros)) (below : at < length out) (clear : get_or out at 0 ≡ 0) (room : at + (sparse_step zeros group).words ≤ length out) where
  pub record Counted : Type 0 where
    pub inside : at + held * run < length out
    pub counts : at + held * run + held ≡ at + (sparse_step zeros group).words
    pub writes : set (set out at word) (at + held * run) group ≡ sets out at (written (sparse_step zeros group))

  pub sparse_counted : Counted
  sparse_counted = go (eqb group 0) refl (eqb zeros 0) refl
    where
      go : (none : Bool) → eqb group 0 ≡ none → (first : Bool) → eqb zeros 0 ≡ first → Counted
      go true e first f =
          let zero : group ≡ 0 = eqb-true group 0 e in
          let nothing : held ≡ 0 = rw e at h in
          let here : at + held * run ≡ at = rw (nothing, zero-mul, add-zero) refl in
          record {
            inside = omega (arith, here);
            counts = rw (here, e, nothing) refl;
            writes = rw (here, zero, set-set, ← clear, set-get_or) refl;
          }
      go false e true f =
          let none : run ≡ 0 = rw f at r in
          let here : at + held * run ≡ at = rw (none, mul-zero, add-zero) refl in
          let one : held ≡ 1 = rw e at h in
          record {
            inside = omega (arith, here);
            counts = rw (here, e, f, one) refl;
            writes = rw (here, e, f, set-set) refl;
          }
      go false e false f =
          let some : run ≡ 1 = rw f at r in
          let one : held ≡ 1 = rw e at h in
          let here : at + held * run ≡ at + 1 = rw (some, one) refl in
          let both : at + 2 ≤ length out = rw (e, f) at room in
          record {
            inside = omega (arith, here, both);
            counts = rw (here, e, f, one) (omega arith);
            writes = rw (here, e, f, w, add-one at) refl;
          }

-- ---- groups of which none is all ones

pub none-full : (groups : List ℕ) → none_full groups ≡ true → (i : ℕ) → i < length groups → get_or groups i 0 ≡ all_ones → ⊥
none-full [] e i h is = omega arith
none-full (group ∷ groups) e zero h is =
    let both = (and-eq-true_iff (not (eqb group all_ones)) (none_full groups)).0 e in
    eqb-false group all_ones (not-true (eqb group all_ones) both.0) is
none-full (group ∷ groups) e (suc i) h is =
    let both = (and-eq-true_iff (not (eqb group all_ones)) (none_full groups)).0 e in
    none-full groups both.1 i (omega arith) is

-- the loop that looks for a group of all ones: a turn, and the end
module _ (groups : List ℕ) (full : Bool) (i : ℕ) where
  pub full-more : i < length groups
      → not full && none_full (drop i groups) ≡ not (full || eqb (get_or groups i 0) all_ones) && none_full (drop (i + 1) groups)
  full-more h = rw (drop-cons groups i 0 h, add-one) (go full (eqb (get_or groups i 0) all_ones) (none_full (drop (suc i) groups)))
    where
      go : (full is behind : Bool) → not full && (not is && behind) ≡ not (full || is) && behind
      go true is behind = refl
      go false is behind = refl

  pub full_all : length groups ≤ i → not full && none_full (drop i groups) ≡ not full
  full_all h = rw (drop_of_length-le groups h) (and-true (not full))
