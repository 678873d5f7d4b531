-- A merge and a flip with the fences after them: what making them anew asks, and what is left. Assumes nothing.
use mathlib.Core.Path.{◌≡◌, refl}
use mathlib.Core.Bool.{Bool, true, false}
use mathlib.Core.List.{List}
use Prim.Native.Nat.{ℕ, ◌<◌, ◌≤◌}
use lib.ListN.{length}
use Rattle.blocks.specs.Sizes.{value_room}
use Rattle.blocks.specs.Block.{value_length}
use Rattle.blocks.specs.declared.sizes.Sizes.{Sizes}
use Rattle.block_read.specs.declared.fence.Fence.{Fence}
use Rattle.memory.specs.Inner.{Fenced}
use Rattle.memory.specs.Memory.{memory_of, block_at}
use Rattle.change_value.specs.Change.{whole, merges_in, merged_words, flipped_words, renewed, merged_in, flipped_in}
use Rattle.change_value.proofs.Changing.{whole-fits, merged-whole, flipped-whole}

module _ (sizes : Sizes) (words : List ℕ) (fences : List Fence) (value : ℕ) (inside : Fenced sizes (length words) (length fences) value)
    (holds : whole sizes words value ≡ true) (left : List ℕ) (long : length left ≡ length words) where
  -- words that are as many, whose lists are whole, may have fences made anew
  asks : whole sizes left value ≡ true → Fenced sizes (length left) (length fences) value × (value_length (block_at sizes left value) ≤ value_room sizes)
  asks good = (rw long inside, whole-fits sizes left value good)

  -- ---- a merge

  module _ (merges : left ≡ merged_words sizes words value) where
    pub merge_asks : Fenced sizes (length left) (length fences) value × (value_length (block_at sizes left value) ≤ value_room sizes)
    merge_asks = asks (rw merges (merged-whole sizes inside.limits words value inside.inside holds))

    pub merge_done : (remade : List Fence) → remade ≡ renewed sizes left fences value → memory_of left remade ≡ merged_in sizes (memory_of words fences) value
    unfolding merged_in
    merge_done remade made = rw (made, merges) refl

  -- ---- a flip

  module _ (row : ℕ) (below : row < sizes.rows) (flips : left ≡ flipped_words sizes words value row) (merges : Bool)
      (due : merges ≡ merges_in sizes words value row) where
    pub flip_asks : Fenced sizes (length left) (length fences) value × (value_length (block_at sizes left value) ≤ value_room sizes)
    flip_asks = asks (rw flips (flipped-whole sizes inside.limits words value inside.inside holds row below))

    pub flip_renews : merges ≡ true → (remade : List Fence) → remade ≡ renewed sizes left fences value
        → memory_of left remade ≡ flipped_in sizes (memory_of words fences) value row
    unfolding flipped_in
    flip_renews e remade made = rw (made, flips, ← due, e) refl

    pub flip_keeps : merges ≡ false → memory_of left fences ≡ flipped_in sizes (memory_of words fences) value row
    unfolding flipped_in
    flip_keeps e = rw (flips, ← due, e) refl
