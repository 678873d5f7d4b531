-- The rows of a whole group and the one behind them: a mask picks a row's bit, and the loop over them takes a turn. Assumes nothing.
use mathlib.Core.Path.{◌≡◌, refl, ◌∙◌, ap, sym}
use mathlib.Core.Bool.{Bool, true, false, cond}
use mathlib.Core.List.{List}
use mathlib.Core.Logic.{by_cases}
use Prim.Native.Nat.{ℕ, ◌+◌, ◌-◌, ◌/◌, ◌%◌, ◌^◌, ◌<◌, ◌≤◌}
use native.Mathlib.Decide.{dec_lt}
use native.Mathlib.Nat.{mod-eq_of_lt}
use native.Mathlib.Omega.{arith}
use lib.Bits.{bit_and, and_zero_r}
use lib.Dec.{eqb}
use lib.ListN.{length, get_or, set, take, drop}
use lib.Seq.{take_at, length-take-le}
use borrow.Author.Tests.{eqb-true, eqb-false}
use Rattle.groups.proofs.Group.{mask_clear, mask_set}
use Rattle.dump_marks.specs.Inner.{each_row, every_row, is_clear, free_in_group, marked_in_group, in_span, free_in_groups, marked_in_groups, groups_hold, groups_marked, alike}
use Rattle.dump_marks.proofs.EachRow.{length_each}
use Rattle.dump_marks.proofs.marking.HighestBit.{row_mask}
use Rattle.dump_marks.proofs.marking.Passing.{Passing, next_row}
use Rattle.dump_marks.proofs.marking.Spans.{in_span_lem, holds_part, marked_part}

under_mask : (n k : ℕ) → eqb (bit_and n (2 ^ k)) 0 ≡ eqb (n / 2 ^ k % 2) 0
under_mask n k = go (eqb (bit_and n (2 ^ k)) 0) refl
  where
    go : (t : Bool) → eqb (bit_and n (2 ^ k)) 0 ≡ t → t ≡ eqb (n / 2 ^ k % 2) 0
    go true e = rw (← mask_clear n k (eqb-true (bit_and n (2 ^ k)) 0 e)) refl
    go false e = rw (← mask_set n k (eqb-false (bit_and n (2 ^ k)) 0 e)) refl

-- a byte is picked by the mask of its row; the row behind the group's has none
pub picked : (group row clear set : ℕ) → row < 32
    → cond (eqb (bit_and group (0x40000000 / 2 ^ row)) 0) clear set ≡ marked_in_groups (alike group) 0 1 31 set row clear
picked group row clear set h =
    by_cases (dec_lt row 31)
    (λ inside.
    rw (row_mask row (omega arith), under_mask group (30 - row), in_span_lem (alike group) 31 0 1 row (omega arith) (omega arith), mod-eq_of_lt inside) refl)
    (λ behind.
    let last : row ≡ 31 = omega (arith, behind) in
    rw (last, and_zero_r) refl)

-- 255, or the byte where the row's bit is 1, says whether the row is free
told : (group row byte : ℕ) → eqb (marked_in_groups (alike group) 0 1 31 byte row 255) 255 ≡ free_in_groups (alike group) 0 1 31 row byte
told group row byte = go (in_span 0 1 31 row) (is_clear group row) refl refl
  where
    go : (s t : Bool) → in_span 0 1 31 row ≡ s → is_clear group row ≡ t
        → eqb (marked_in_groups (alike group) 0 1 31 byte row 255) 255 ≡ free_in_groups (alike group) 0 1 31 row byte
    go true true d e = rw (d, e) refl
    go true false d e = rw (d, e) refl
    go false t d e = rw d refl

small-byte : (group row byte : ℕ) → byte ≤ 255 → marked_in_groups (alike group) 0 1 31 byte row 255 ≤ 255
small-byte group row byte h = go (in_span 0 1 31 row) (is_clear group row) refl refl
  where
    go : (s t : Bool) → in_span 0 1 31 row ≡ s → is_clear group row ≡ t → marked_in_groups (alike group) 0 1 31 byte row 255 ≤ 255
    go true true d e = rw (d, e) (omega arith)
    go true false d e = rw (d, e) h
    go false t d e = rw d (omega arith)

-- a turn of the loop over the rows of a group and the one behind them
module _ (group value : ℕ) {rows₀ rows : List ℕ} {free row : ℕ}
    (p : Passing (free_in_groups (alike group) 0 1 31) (marked_in_groups (alike group) 0 1 31 value) rows₀ rows free row) where
  pub next-many : row < length rows → get_or rows row 0 ≤ 255 → (seen new : ℕ)
      → seen ≡ marked_in_groups (alike group) 0 1 31 (get_or rows row 0) row 255
      → new ≡ marked_in_groups (alike group) 0 1 31 value row (get_or rows row 0)
      → Passing (free_in_groups (alike group) 0 1 31) (marked_in_groups (alike group) 0 1 31 value) rows₀ (set rows row new) (bit_and free seen) (row + 1)
  next-many inside byte seen new s m =
      let was = p.left row (omega arith) in
      next_row (free_in_groups (alike group) 0 1 31) (marked_in_groups (alike group) 0 1 31 value) p inside seen new
      (rw s (small-byte group row (get_or rows row 0) byte))
      (rw s (told group row (get_or rows row 0)) ∙ ap (free_in_groups (alike group) 0 1 31 row) was)
      (m ∙ ap (marked_in_groups (alike group) 0 1 31 value row) was)

-- ---- the bytes of the group's rows, with a byte more

module _ (group : ℕ) (bytes : List ℕ) (long : length bytes ≡ 32) where
  pub told_rows : groups_hold (alike group) 0 1 31 bytes ≡ every_row (free_in_group group) 0 (take 31 bytes)
  told_rows = sym (holds_part group 0 1 31 bytes 31 (omega arith) (omega arith) refl)

  pub marked_rows : (value : ℕ) → take 31 (groups_marked (alike group) 0 1 31 value bytes) ≡ each_row (marked_in_group group value) 0 (take 31 bytes)
  marked_rows value =
      let front : length (each_row (marked_in_group group value) 0 (take 31 bytes)) ≡ 31 =
      length_each (marked_in_group group value) 0 (take 31 bytes) ∙ length-take-le 31 bytes (omega arith) in
      ap (take 31) (sym (marked_part group 0 1 31 bytes 31 (omega arith) (omega arith) refl value))
      ∙ take_at (each_row (marked_in_group group value) 0 (take 31 bytes)) (drop 31 bytes) 31 front
