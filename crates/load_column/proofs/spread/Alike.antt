-- A whole group of rows that hold one byte: two windows of sixteen rows show it, and the groups of the values. Assumes nothing.
use Rattle.std.proofs.Common.{◌≡◌, ℕ, zero, suc, ◌+◌, ◌-◌, ◌<◌, ◌≤◌, Bool, true, false, cond, ◌&&◌, eqb, List, [], ◌∷◌, length, get_or, take, drop, replicate, sym, refl, ap, ◌∙◌, arith, length-drop, length-take-le, get_or-drop, get_or-take, eq-eqb, eqb-true}
use mathlib.Core.Bool.{and-eq-true_iff}
use mathlib.Core.Logic.{by_cases}
use native.Mathlib.Decide.{dec_lt}
use lib.ListN.{get_or-replicate}
use Rattle.std.specs.List.{list_all}
use Rattle.groups.specs.Rows.{group_of}
use Rattle.groups.proofs.Tests.{same_test}
use Rattle.words.specs.Words.{all_ones}
use Rattle.load_list.specs.Column.{rows_with}
use Rattle.load_list.specs.Inner.{all_alike}
use Rattle.load_list.proofs.listing.Alike.{alike_numbers, alike-replicate}
use Rattle.load_column.specs.Inner.{one_byte}

alike_each : (byte : ℕ) (rows : List ℕ) → all_alike byte rows ≡ true → (i : ℕ) → i < length rows → get_or rows i 0 ≡ byte
alike_each byte rows e i h = ap (λ (same : List ℕ). get_or same i 0) (alike-replicate byte rows (length rows) refl e) ∙ get_or-replicate (length rows) i byte 0 h

each_alike : (byte : ℕ) (rows : List ℕ) → ((i : ℕ) → i < length rows → get_or rows i 0 ≡ byte) → all_alike byte rows ≡ true
each_alike byte [] each = refl
each_alike byte (row ∷ rows) each = rw (eq-eqb row byte (each 0 (omega arith))) (each_alike byte rows (λ i h. each (suc i) (omega arith)))

-- a window of sixteen rows
module _ (rows : List ℕ) (at : ℕ) (inside : at + 16 ≤ length rows) where
  pub window_length : length (take 16 (drop at rows)) ≡ 16
  window_length = length-take-le 16 (drop at rows) (rw length-drop (omega arith))

  in_window : (i : ℕ) → i < 16 → get_or (take 16 (drop at rows)) i 0 ≡ get_or rows (at + i) 0
  in_window i h = get_or-take 16 (drop at rows) i 0 h ∙ get_or-drop at rows i 0

-- the first row and two windows are all rows
pub two_windows : (rows : List ℕ) → length rows ≡ 31
    → all_alike (get_or rows 0 0) rows ≡ all_alike (get_or rows 0 0) (take 16 (drop 1 rows)) && all_alike (get_or rows 0 0) (take 16 (drop 15 rows))
two_windows rows long =
    let byte = get_or rows 0 0 in
    let front = take 16 (drop 1 rows) in
    let back = take 16 (drop 15 rows) in
    same_test (all_alike byte rows) (all_alike byte front && all_alike byte back)
    (λ e.
    (and-eq-true_iff (all_alike byte front) (all_alike byte back)).1 (
      window 1 (omega arith) (alike_each byte rows e),
      window 15 (omega arith) (alike_each byte rows e),
    ))
    (λ e.
    let both = (and-eq-true_iff (all_alike byte front) (all_alike byte back)).0 e in
    each_alike byte rows (λ i h. covered both.0 both.1 i (omega arith)))
  where
    window : (at : ℕ) → at + 16 ≤ length rows → ((i : ℕ) → i < length rows → get_or rows i 0 ≡ get_or rows 0 0) → all_alike (get_or rows 0 0) (take 16 (drop at rows)) ≡ true
    window at inside each =
        each_alike (get_or rows 0 0) (take 16 (drop at rows))
        (λ i h.
        let below : i < 16 = omega (arith, h, window_length rows at inside) in
        in_window rows at inside i below ∙ each (at + i) (omega arith))

    -- each row stands first or in a window
    covered : all_alike (get_or rows 0 0) (take 16 (drop 1 rows)) ≡ true → all_alike (get_or rows 0 0) (take 16 (drop 15 rows)) ≡ true
        → (i : ℕ) → i < 31 → get_or rows i 0 ≡ get_or rows 0 0
    covered front back zero h = refl
    covered front back (suc i) h =
        by_cases (dec_lt i 16)
        (λ early.
        let here : suc i ≡ 1 + i = omega arith in
        ap (λ (k : ℕ). get_or rows k 0) here
        ∙ sym (in_window rows 1 (omega arith) i early)
        ∙ alike_each (get_or rows 0 0) (take 16 (drop 1 rows)) front i (rw (window_length rows 1 (omega arith)) early))
        (λ late.
        let here : 15 + (suc i - 15) ≡ suc i = omega (arith, late) in
        let below : suc i - 15 < 16 = omega (arith, late, h) in
        ap (λ (k : ℕ). get_or rows k 0) (sym here)
        ∙ sym (in_window rows 15 (omega arith) (suc i - 15) below)
        ∙ alike_each (get_or rows 0 0) (take 16 (drop 15 rows)) back (suc i - 15) (rw (window_length rows 15 (omega arith)) below))

-- so what is answered of both windows shows whether the rows are a whole group of one byte
pub windows_alike : (rows : List ℕ) → length rows ≡ 31 → {front back : Bool}
    → front ≡ list_all (λ each. eqb each (get_or rows 0 0)) (take 16 (drop 1 rows))
    → back ≡ list_all (λ each. eqb each (get_or rows 0 0)) (take 16 (drop 15 rows)) → front && back ≡ one_byte rows
windows_alike rows long f b =
    let byte = get_or rows 0 0 in
    rw (f, b, alike_numbers byte (take 16 (drop 1 rows)), alike_numbers byte (take 16 (drop 15 rows)), eq-eqb (length rows) 31 long)
    (sym (two_windows rows long))

-- a whole group of one byte: so many times the byte, and the group of each value
module _ (rows : List ℕ) (e : one_byte rows ≡ true) where
  abbrev byte : ℕ
  byte = get_or rows 0 0

  both : (eqb (length rows) 31 ≡ true) × (all_alike byte rows ≡ true)
  both = (and-eq-true_iff (eqb (length rows) 31) (all_alike byte rows)).0 e

  pub whole_length : length rows ≡ 31
  whole_length = eqb-true (length rows) 31 both.0

  all : rows ≡ replicate 31 byte
  all = alike-replicate byte rows 31 whole_length both.1

  pub whole_group : (value : ℕ) → cond (eqb (get_or rows 0 0) value) all_ones 0 ≡ group_of 31 (rows_with value rows)
  whole_group value = go byte (eqb byte value) refl ∙ ap (λ (same : List ℕ). group_of 31 (rows_with value same)) (sym all)
    where
      go : (byte : ℕ) (held : Bool) → eqb byte value ≡ held → cond (eqb byte value) all_ones 0 ≡ group_of 31 (rows_with value (replicate 31 byte))
      go byte true h = rw h refl
      go byte false h = rw h refl
