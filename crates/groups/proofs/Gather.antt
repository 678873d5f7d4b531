-- The loop that gathers a group from its rows, the first row first. Assumes nothing.
use mathlib.Core.Path.{◌≡◌, ◌∙◌, sym}
use mathlib.Core.Bool.{true}
use mathlib.Core.List.{List}
use Prim.Native.Nat.{ℕ, suc, ◌+◌, ◌*◌, ◌-◌, ◌%◌, ◌^◌, ◌<◌, ◌≤◌}
use native.Mathlib.Omega.{arith}
use native.Mathlib.Nat.{zero-add, pow-succ'}
use native.Mathlib.Numerals.{add-one}
use lib.ListN.{length, get_or, drop, drop_of_length-le}
use lib.Seq.{drop-cons}
use lib.Pow.{pow-add, shl_exact}
use Rattle.groups.specs.Rows.{are_bits, group_of}
use Rattle.groups.proofs.Bits.{are_bits-get_or}
use Rattle.groups.proofs.Group.{group_of-nil}
use Rattle.groups.proofs.Parts.{joined}

-- i rows are in `group`, the others are still to come
pub record Gathered (rows : List ℕ) (group i : ℕ) : Type 0 where
  pub within : i ≤ length rows
  pub small : group < 2 ^ i
  pub whole : group_of 31 rows ≡ group * 2 ^ (31 - i) + group_of (31 - i) (drop i rows)

-- the loop begins, takes one row more, and ends with a shift over the missing rows
module _ (rows : List ℕ) where
  pub gather_none : Gathered rows 0 0
  gather_none = record { within = omega arith; small = omega arith; whole = sym (zero-add (group_of 31 rows)) }

  pub gather_more : (group i : ℕ) → are_bits rows ≡ true → length rows ≤ 31 → i < length rows → Gathered rows group i
      → Gathered rows (group * 2 + get_or rows i 0) (i + 1)
  gather_more group i bits few h k =
      let here : 31 - i ≡ suc (30 - i) = omega arith in
      let next : 31 - (i + 1) ≡ 30 - i = omega arith in
      record {
        within = omega arith;
        small = omega (arith, k.small, are_bits-get_or rows bits i, pow-add 2 i 1);
        whole = k.whole ∙ rw (here, next, drop-cons rows i 0 h, add-one, pow-succ') (joined group 2 (2 ^ (30 - i)) (get_or rows i 0) _);
      }

  pub gather_all : (group i : ℕ) → length rows ≤ 31 → length rows ≤ i → Gathered rows group i → group * 2 ^ (31 - length rows) % 2 ^ 32 ≡ group_of 31 rows
  gather_all group i few h k =
      let all : length rows ≡ i = omega (arith, k.within) in
      rw all (shl_exact i (31 - i) 32 k.small (omega (arith, k.within)) ∙ sym (k.whole ∙ rw (drop_of_length-le rows h, group_of-nil) (omega arith)))
