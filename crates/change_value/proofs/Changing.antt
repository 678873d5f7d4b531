-- What a merge and a flip of a row in a value leave in the lent words: as many words, the block that it makes with both lists whole again, and every
-- other value's block as it was. Assumes nothing.
use mathlib.Core.Path.{◌≡◌, ap}
use mathlib.Core.Bool.{true}
use mathlib.Core.List.{List}
use Prim.Native.Nat.{ℕ, ◌+◌, ◌*◌, ◌<◌, ◌≤◌}
use lib.ListN.{length}
use Rattle.blocks.specs.Sizes.{value_room, block_size}
use Rattle.blocks.specs.Inner.{Limits}
use Rattle.blocks.specs.Block.{value_length}
use Rattle.blocks.specs.Whole.{whole_lists}
use Rattle.blocks.specs.declared.sizes.Sizes.{Sizes}
use Rattle.blocks.proofs.Parts.{length-write, part-write, part_apart}
use Rattle.blocks.proofs.SizeLaws.{places_apart}
use Rattle.blocks.proofs.WholeLists.{whole_parts}
use Rattle.block_change.specs.Change.{merged, merge_due, flipped}
use Rattle.block_change.proofs.Flipping.{length-flipped, whole-flipped}
use Rattle.block_change.proofs.Merging.{length_merged, whole-merged}
use Rattle.memory.specs.Memory.{block_at}
use Rattle.memory.proofs.Places.{length-block_at}
use Rattle.change_value.specs.Change.{whole, merges_in, put_block, merged_words, flipped_words}

-- V of a value whose lists are whole fits its room
pub whole-fits : (sizes : Sizes) (words : List ℕ) (value : ℕ) → whole sizes words value ≡ true → value_length (block_at sizes words value) ≤ value_room sizes
unfolding whole
whole-fits sizes words value are = (whole_parts sizes (block_at sizes words value) are).value_short

-- ---- another block for a value

-- there are as many words, the value has that block, and every other value the block that it had
pub record Puts (sizes : Sizes) (words : List ℕ) (value : ℕ) (block left : List ℕ) : Type 0 where
  pub long : length left ≡ length words
  pub own : block_at sizes left value ≡ block
  pub others : (other : ℕ) → (value ≡ other → ⊥) → block_at sizes left other ≡ block_at sizes words other

pub block_puts : (sizes : Sizes) (words : List ℕ) (value : ℕ) → value * block_size sizes + block_size sizes ≤ length words
    → (block : List ℕ) → length block ≡ block_size sizes → Puts sizes words value block (put_block sizes words value block)
unfolding put_block block_at
block_puts sizes words value inside block n =
    let place = value * block_size sizes in
    let fits : place + length block ≤ length words = rw n inside in
    record {
      long = length-write words place block fits;
      own = rw n at (part-write words place block fits);
      others = λ other differ.
          part_apart words place block fits (other * block_size sizes) (block_size sizes) (rw n (places_apart (block_size sizes) value other differ));
    }

module _ {sizes : Sizes} {words : List ℕ} {value : ℕ} {block left : List ℕ} (puts : Puts sizes words value block left) where
  own_whole : whole_lists sizes block ≡ true → whole sizes left value ≡ true
  unfolding whole
  own_whole are = rw puts.own are

  -- THEOREM: the lists of another value are whole if they were, and a flip of a row in it merges if it did
  pub whole_other : (other : ℕ) → (value ≡ other → ⊥) → whole sizes left other ≡ whole sizes words other
  unfolding whole
  whole_other other differ = ap (whole_lists sizes) (puts.others other differ)

  pub merges_other : (other row : ℕ) → (value ≡ other → ⊥) → merges_in sizes left other row ≡ merges_in sizes words other row
  unfolding merges_in
  merges_other other row differ = ap (merge_due sizes row) (puts.others other differ)

-- ---- a merge, and a flip of a row

module _ (sizes : Sizes) (limits : Limits sizes) (words : List ℕ) (value : ℕ) (inside : value * block_size sizes + block_size sizes ≤ length words)
    (are : whole sizes words value ≡ true) where
  -- THEOREM: a merge puts the merged block
  pub merged_puts : Puts sizes words value (merged sizes (block_at sizes words value)) (merged_words sizes words value)
  unfolding merged_words whole
  merged_puts =
      let block = block_at sizes words value in
      block_puts sizes words value inside (merged sizes block) (length_merged sizes limits block are)

  -- THEOREM: both lists are whole again
  pub merged-whole : whole sizes (merged_words sizes words value) value ≡ true
  unfolding whole
  merged-whole = own_whole merged_puts (whole-merged sizes limits (block_at sizes words value) are)

  module _ (row : ℕ) (h : row < sizes.rows) where
    -- THEOREM: a flip puts the flipped block
    pub flipped_puts : Puts sizes words value (flipped sizes row (block_at sizes words value)) (flipped_words sizes words value row)
    unfolding flipped_words whole
    flipped_puts =
        let block = block_at sizes words value in
        block_puts sizes words value inside (flipped sizes row block)
        (length-flipped sizes limits row h block (length-block_at sizes words value inside) are)

    -- THEOREM: both lists are whole again
    pub flipped-whole : whole sizes (flipped_words sizes words value row) value ≡ true
    unfolding whole
    flipped-whole = own_whole flipped_puts (whole-flipped sizes limits row h (block_at sizes words value) (length-block_at sizes words value inside) are)
