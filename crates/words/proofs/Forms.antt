-- Laws of the form and of the groups of a list, one word after the other from the left. Assumes nothing.
use mathlib.Core.Path.{◌≡◌, refl, ◌∙◌, ap, sym}
use mathlib.Core.Bool.{true, not, ◌&&◌, and_assoc, and-true, and-eq-true_iff}
use mathlib.Core.Logic.{by_cases}
use mathlib.Core.List.{List, [], ◌∷◌, ◌++◌, map, map-append, append_assoc, append-nil}
use Prim.Native.Nat.{ℕ, ◌+◌, ◌<◌, ◌≤◌}
use native.Mathlib.Decide.{dec_lt}
use native.Mathlib.Omega.{arith}
use native.Mathlib.Numerals.{add-one}
use lib.Dec.{eqb, ltb}
use lib.ListN.{length, get_or, take, drop, replicate, length-append, length-replicate, take-append-drop, drop_of_length-le}
use lib.Seq.{take-suc, drop-cons}
use borrow.Author.Tests.{eqb-false, ne_eqb, ltb-true, lt-ltb, not-true}
use Rattle.words.specs.Words.{Run, Run.literal, Run.fill, all_ones, run_of, span, group_in, groups_in, decode, keeps_form, bit_after, well_formed}
use Rattle.words.proofs.Runs.{Apart}

-- ---- what it says that the form is kept

pub keeps_literal : (before group : ℕ) → keeps_form before (literal group) ≡ true → (group ≡ 0 → ⊥) × (group ≡ all_ones → ⊥)
keeps_literal before group e =
    let s = (and-eq-true_iff (not (eqb group 0)) (not (eqb group all_ones))).0 e in
    (eqb-false group 0 (not-true (eqb group 0) s.0), eqb-false group all_ones (not-true (eqb group all_ones) s.1))

pub keeps_fill : (before bit count : ℕ) → keeps_form before (fill bit count) ≡ true → (before ≡ bit → ⊥) × (0 < count)
keeps_fill before bit count e =
    let s = (and-eq-true_iff (not (eqb before bit)) (ltb 0 count)).0 e in
    (eqb-false before bit (not-true (eqb before bit) s.0), ltb-true 0 count s.1)

-- a run that keeps the form covers a group
pub keeps_covers : (before : ℕ) (run : Run) → keeps_form before run ≡ true → 0 < span run
keeps_covers before (literal group) e = omega arith
keeps_covers before (fill bit count) e = (keeps_fill before bit count e).1

pub keeps_first : (before : ℕ) (run : Run) (runs : List Run)
    → well_formed before (run ∷ runs) ≡ true → (keeps_form before run ≡ true) × (well_formed (bit_after run) runs ≡ true)
keeps_first before run runs e = (and-eq-true_iff (keeps_form before run) (well_formed (bit_after run) runs)).0 e

-- runs that keep the form after a bit do not begin with a fill of it
pub form_apart : (before : ℕ) (runs : List Run) → well_formed before runs ≡ true → Apart before runs
form_apart before [] e = tt
form_apart before (literal group ∷ runs) e = tt
form_apart before (fill bit count ∷ runs) e = (keeps_fill before bit count (keeps_first before (fill bit count) runs e).0).0

-- and those that do not begin with a fill of a bit keep it after that bit too
pub apart_form : (before other : ℕ) (runs : List Run) → Apart other runs → well_formed before runs ≡ true → well_formed other runs ≡ true
apart_form before other [] a e = refl
apart_form before other (literal group ∷ runs) a e = e
apart_form before other (fill bit count ∷ runs) a e =
    let s = keeps_first before (fill bit count) runs e in
    rw (ne_eqb other bit a, lt-ltb 0 count (keeps_fill before bit count s.0).1) s.1

-- ---- runs, and runs after them

-- the groups of one run
abbrev pub groups_of_run : Run → List ℕ
groups_of_run run = replicate (span run) (group_in run)

-- the bit before what comes after some runs
abbrev pub bit_past : ℕ → List Run → ℕ
bit_past before [] = before
bit_past before (run ∷ runs) = bit_past (bit_after run) runs

pub groups-append : (runs rest : List Run) → groups_in (runs ++ rest) ≡ groups_in runs ++ groups_in rest
groups-append [] rest = refl
groups-append (run ∷ runs) rest =
    ap (◌++◌ (groups_of_run run)) (groups-append runs rest) ∙ sym (append_assoc (groups_of_run run) (groups_in runs) (groups_in rest))

pub length-groups : (run : Run) (runs : List Run) → length (groups_in (run ∷ runs)) ≡ span run + length (groups_in runs)
length-groups run runs = length-append (groups_of_run run) (groups_in runs) ∙ simp length-replicate

-- the form is kept by some runs and, from the bit they end with, by those after them
form_append : (before : ℕ) (runs rest : List Run)
    → well_formed before (runs ++ rest) ≡ (well_formed before runs && well_formed (bit_past before runs) rest)
form_append before [] rest = refl
form_append before (run ∷ runs) rest =
    ap (◌&&◌ (keeps_form before run)) (form_append (bit_after run) runs rest)
    ∙ sym (and_assoc (keeps_form before run) (well_formed (bit_after run) runs) (well_formed (bit_past (bit_after run) runs) rest))

bit-append : (before : ℕ) (runs rest : List Run) → bit_past before (runs ++ rest) ≡ bit_past (bit_past before runs) rest
bit-append before [] rest = refl
bit-append before (run ∷ runs) rest = bit-append (bit_after run) runs rest

-- ---- a list cut at place i

-- the run of the word at place i
abbrev pub run_at : List ℕ → ℕ → Run
run_at list i = run_of (get_or list i 0)

module _ (list : List ℕ) (i : ℕ) where
  runs_split : map run_of list ≡ map run_of (take i list) ++ map run_of (drop i list)
  runs_split = ap (map run_of) (sym (take-append-drop i list)) ∙ map-append run_of (take i list) (drop i list)

  pub decode_split : decode list ≡ decode (take i list) ++ decode (drop i list)
  decode_split = ap groups_in runs_split ∙ groups-append (map run_of (take i list)) (map run_of (drop i list))

  pub length_split : length (decode list) ≡ length (decode (take i list)) + length (decode (drop i list))
  length_split = ap length decode_split ∙ length-append (decode (take i list)) (decode (drop i list))

  pub form_split : (before : ℕ)
      → well_formed before (map run_of list)
      ≡ (well_formed before (map run_of (take i list)) && well_formed (bit_past before (map run_of (take i list))) (map run_of (drop i list)))
  form_split before = ap (well_formed before) runs_split ∙ form_append before (map run_of (take i list)) (map run_of (drop i list))

-- ---- the word at place i: first of the words from i on, last of the words up to i

module _ (list : List ℕ) (i : ℕ) (h : i < length list) where
  runs_from : map run_of (drop i list) ≡ run_at list i ∷ map run_of (drop (i + 1) list)
  runs_from = rw (drop-cons list i 0 h, add-one) refl

  pub decode-from : decode (drop i list) ≡ groups_of_run (run_at list i) ++ decode (drop (i + 1) list)
  decode-from = ap groups_in runs_from

  pub length_from : length (decode (drop i list)) ≡ span (run_at list i) + length (decode (drop (i + 1) list))
  length_from = ap length decode-from ∙ length-groups (run_at list i) (map run_of (drop (i + 1) list))

  runs_upto : map run_of (take (i + 1) list) ≡ map run_of (take i list) ++ run_at list i ∷ []
  runs_upto = rw (add-one, take-suc list i 0 h, map-append) refl

  pub decode_upto : decode (take (i + 1) list) ≡ decode (take i list) ++ groups_of_run (run_at list i)
  decode_upto = ap groups_in runs_upto ∙ groups-append (map run_of (take i list)) (run_at list i ∷ []) ∙ simp append-nil

  pub length_upto : length (decode (take (i + 1) list)) ≡ length (decode (take i list)) + span (run_at list i)
  length_upto = ap length decode_upto ∙ simp (length-append, length-replicate)

  pub form_upto : (before : ℕ)
      → well_formed before (map run_of (take (i + 1) list))
      ≡ (well_formed before (map run_of (take i list)) && keeps_form (bit_past before (map run_of (take i list))) (run_at list i))
  form_upto before = ap (well_formed before) runs_upto ∙ form_append before (map run_of (take i list)) (run_at list i ∷ []) ∙ simp and-true

  pub bit_upto : (before : ℕ) → bit_past before (map run_of (take (i + 1) list)) ≡ bit_after (run_at list i)
  bit_upto before = ap (bit_past before) runs_upto ∙ bit-append before (map run_of (take i list)) (run_at list i ∷ [])

-- ---- no word from place i on

module _ (list : List ℕ) (i : ℕ) (h : length list ≤ i) where
  pub decode_end : decode (drop i list) ≡ []
  decode_end = rw (drop_of_length-le list h) refl

-- where groups are left, a word is
pub word_left : (list : List ℕ) (i : ℕ) → 0 < length (decode (drop i list)) → i < length list
word_left list i some = by_cases (dec_lt i (length list)) (λ h. h) (λ h. absurd (omega (arith, ap length (decode_end list i (omega arith)))))
