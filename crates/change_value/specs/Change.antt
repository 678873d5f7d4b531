-- Document 01, "What the calls do": the whole check, a merge and a flip of a row in one value of an index.
use Rattle.std.specs.Prelude.{Bool, cond, List, ℕ, ◌*◌}
use Rattle.blocks.specs.Sizes.{block_size, fence_count}
use Rattle.blocks.specs.Block.{write}
use Rattle.blocks.specs.Whole.{whole_lists}
use Rattle.blocks.specs.declared.sizes.Sizes.{Sizes}
use Rattle.block_read.specs.declared.fence.Fence.{Fence}
use Rattle.block_change.specs.Change.{merged, merge_due, flipped}
use Rattle.memory.specs.Fences.{fences_from}
use Rattle.memory.specs.Memory.{Memory, memory_of, block_at, list_at}

-- the whole check of both lists of a value
unfoldable pub whole : Sizes → List ℕ → ℕ → Bool
whole sizes words value = whole_lists sizes (block_at sizes words value)

-- whether a flip of a row in a value merges first
unfoldable pub merges_in : Sizes → List ℕ → ℕ → ℕ → Bool
merges_in sizes words value row = merge_due sizes row (block_at sizes words value)

-- the words with another block for a value
unfoldable pub put_block : Sizes → List ℕ → ℕ → List ℕ → List ℕ
put_block sizes words value block = write words (value * block_size sizes) block

-- the words after the merge of a value, and after a flip of a row in it
unfoldable pub merged_words : Sizes → List ℕ → ℕ → List ℕ
merged_words sizes words value = put_block sizes words value (merged sizes (block_at sizes words value))

unfoldable pub flipped_words : Sizes → List ℕ → ℕ → ℕ → List ℕ
flipped_words sizes words value row = put_block sizes words value (flipped sizes row (block_at sizes words value))

-- the fences with those of a value made anew
unfoldable pub renewed : Sizes → List ℕ → List Fence → ℕ → List Fence
renewed sizes words fences value = write fences (value * fence_count sizes) (fences_from sizes (list_at sizes words value) 0 (fence_count sizes))

-- V becomes V xor U, its fences are made anew and U becomes all zero
unfoldable pub merged_in : Sizes → Memory → ℕ → Memory
merged_in sizes memory value =
    let words = merged_words sizes memory.words value in memory_of words (renewed sizes words memory.fences value)

-- a flip of a row: fences are made anew where it merges
unfoldable pub flipped_in : Sizes → Memory → ℕ → ℕ → Memory
flipped_in sizes memory value row =
    let words = flipped_words sizes memory.words value row in
    memory_of words (cond (merges_in sizes memory.words value row) (renewed sizes words memory.fences value) memory.fences)
