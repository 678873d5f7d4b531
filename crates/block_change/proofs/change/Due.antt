-- When a merge is due, as the code finds it: by the number of U's ones, then by the row's bit in the group that is read of U. Assumes nothing.
use Rattle.std.specs.Prelude.{Option, None}
use mathlib.Core.Path.{◌≡◌, refl, ◌∙◌, sym}
use mathlib.Core.Bool.{true, false, and-true, and-false}
use mathlib.Core.List.{List}
use Prim.Native.Nat.{ℕ, ◌-◌, ◌/◌, ◌%◌, ◌^◌, ◌<◌, ◌≤◌}
use native.Mathlib.Omega.{arith}
use lib.Dec.{eqb}
use lib.ListN.{get_or}
use borrow.Author.Tests.{le-leb, lt-leb}
use Rattle.groups.specs.Rows.{row_at}
use Rattle.words.specs.Words.{decode}
use Rattle.blocks.specs.Sizes.{update_room}
use Rattle.blocks.specs.Inner.{Limits}
use Rattle.blocks.specs.Block.{update_list}
use Rattle.block_read.proofs.Readings.{read_as, same_reading}
use Rattle.block_read.specs.Read.{read_update}
use Rattle.blocks.specs.Whole.{update_ones, whole_lists}
use Rattle.block_change.specs.Change.{merge_due}
use Rattle.blocks.specs.declared.sizes.Sizes.{Sizes}
use Rattle.block_read.specs.declared.read.Reading.{Reading}
use Rattle.block_read.proofs.Reaching.{Reaches, update-reads}

module _ (sizes : Sizes) (row : ℕ) (block : List ℕ) where
  -- U has fewer than T ones
  pub none_due : update_ones sizes block < sizes.threshold → false ≡ merge_due sizes row block
  unfolding merge_due
  none_due few = rw (lt-leb sizes.threshold (update_ones sizes block) few) (sym (and-false (eqb (row_at (decode (update_list sizes block)) row) 0)))

  module _ (limits : Limits sizes) (whole : whole_lists sizes block ≡ true) (h : row < sizes.rows) (reading : Option Reading)
      (reads : reading ≡ read_update sizes (row / 31) block) where
    reaches : Reaches (read_update sizes (row / 31) block) (get_or (decode (update_list sizes block)) (row / 31) 0) (update_room sizes)
    reaches = update-reads sizes limits block whole (row / 31) (omega arith)

    is_group : reading ≡ read_as (get_or (decode (update_list sizes block)) (row / 31) 0) reaches.opened
    is_group = reads ∙ reaches.reads

    -- the group is always read
    pub never_broken : reading ≡ None → ⊥
    never_broken e = let read = is_group in let z : ◌≡◌ {A = ℕ} 0 1 = cc in omega arith

    -- U has T ones: the row's bit decides
    pub bit_decides : (bits opened bit : ℕ) → reading ≡ read_as bits opened → sizes.threshold ≤ update_ones sizes block
        → bit ≡ bits / 2 ^ (30 - row % 31) % 2 → eqb bit 0 ≡ merge_due sizes row block
    unfolding merge_due
    bit_decides bits opened bit e many is =
        let same = (same_reading (sym is_group ∙ e)).0 in
        rw (le-leb sizes.threshold (update_ones sizes block) many, and-true, same, is) refl
