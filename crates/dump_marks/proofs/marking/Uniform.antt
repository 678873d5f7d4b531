-- Groups of zeros say nothing of a row, and groups of ones mark every row. Assumes nothing.
use mathlib.Core.Path.{◌≡◌, refl, ◌∙◌, ap, sym}
use mathlib.Core.Bool.{true, false}
use mathlib.Core.List.{List}
use Prim.Native.Nat.{ℕ, ◌-◌, ◌/◌, ◌%◌, ◌^◌, ◌<◌}
use native.Mathlib.Nat.{zero-div}
use native.Mathlib.Omega.{arith}
use lib.ListN.{get_or, get_or-replicate}
use Rattle.words.specs.Words.{all_ones}
use Rattle.groups.proofs.Group.{get_or-bits_of}
use Rattle.words.proofs.Uniform.{bits_of-uniform}
use Rattle.dump_marks.specs.Inner.{each_row, every_row, is_clear, free_in_group, marked_in_group}
use Rattle.dump_marks.proofs.EachRow.{each_every, each_keeps}

-- ---- zeros

module _ (rows : List ℕ) where
  pub zeros-free : every_row (free_in_group 0) 0 rows ≡ true
  zeros-free = each_every (free_in_group 0) 0 rows (λ i h. rw zero-div refl)

  pub zeros_keep : (value : ℕ) → each_row (marked_in_group 0 value) 0 rows ≡ rows
  zeros_keep value = each_keeps (marked_in_group 0 value) 0 rows (λ i byte h. rw zero-div refl)

-- ---- ones

one : (i : ℕ) → i < 31 → all_ones / 2 ^ (30 - i) % 2 ≡ 1
one i h =
    sym (get_or-bits_of 30 all_ones i h)
    ∙ ap (λ (bits : List ℕ). get_or bits i 0) (bits_of-uniform 1 (omega arith))
    ∙ get_or-replicate 31 i 1 0 h

pub ones-set : (row : ℕ) → is_clear all_ones row ≡ false
ones-set row = rw (one (row % 31) (omega arith)) refl
