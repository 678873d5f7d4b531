-- Document 01, "Memory of an index": its sentence on the index that is sound, written out. history/proofs/Sound.antt shows that the test `is_sound` says just this.
use Rattle.std.specs.Prelude.{◌≡◌, true, List, ℕ, ◌+◌, ◌*◌, ◌<◌, ◌≤◌, length, get_or}
use Rattle.groups.specs.Rows.{row_at}
use Rattle.words.specs.Words.{decode, canonical}
use Rattle.blocks.specs.Sizes.{value_room, update_room, block_size, fence_count}
use Rattle.blocks.specs.Block.{value_length, update_length, value_words, update_words, value_list, update_list}
use Rattle.blocks.specs.Whole.{update_ones}
use Rattle.blocks.specs.declared.sizes.Sizes.{Sizes}
use Rattle.block_read.specs.Fences.{fence_at}
use Rattle.memory.specs.Fences.{no_fence}
use Rattle.memory.specs.Memory.{Memory, within_limits, sizes_of, block_at, list_at, rows_in}
use Rattle.memory.specs.declared.header.Header.{Header}

-- a list whose length is `count` in the words of its room: canonical for R rows, which have M groups, with no bit at row n or above; unused words are zero
pub record SoundList (rows issued count room : ℕ) (words list : List ℕ) : Type 0 where
  pub fits : count ≤ room
  pub form : canonical rows list ≡ true
  pub clear : (row : ℕ) → issued ≤ row → row_at (decode list) row ≡ 0
  pub unused : (place : ℕ) → count ≤ place → get_or words place 0 ≡ 0

-- V and U of a block, and U has at most T ones
pub record SoundLists (sizes : Sizes) (issued : ℕ) (block : List ℕ) : Type 0 where
  pub value : SoundList sizes.rows issued (value_length block) (value_room sizes) (value_words sizes block) (value_list sizes block)
  pub update : SoundList sizes.rows issued (update_length block) (update_room sizes) (update_words sizes block) (update_list sizes block)
  pub few_ones : update_ones sizes block ≤ sizes.threshold

-- every fence of a value is right: fence j is record v x F + j, and holds the word of V that covers group j x G
abbrev pub FencesRight : Sizes → Memory → ℕ → Type 0
FencesRight sizes memory value =
    (j : ℕ) → j < fence_count sizes → get_or memory.fences (value * fence_count sizes + j) no_fence ≡ fence_at sizes (list_at sizes memory.words value) j

-- no row has a 1 in V xor U of two values
abbrev pub NoRowInTwo : Header → Memory → Type 0
NoRowInTwo header memory =
    (row value other : ℕ) → value < header.values → other < header.values → (value ≡ other → ⊥)
    → row_at (rows_in (sizes_of header) memory.words value) row ≡ 1 → row_at (rows_in (sizes_of header) memory.words other) row ≡ 1 → ⊥

-- an index is sound
pub record Sound (header : Header) (memory : Memory) : Type 0 where
  pub within : within_limits header ≡ true
  pub words_lent : header.values * block_size (sizes_of header) ≤ length memory.words
  pub fences_lent : header.values * fence_count (sizes_of header) ≤ length memory.fences
  pub lists : (value : ℕ) → value < header.values → SoundLists (sizes_of header) header.issued (block_at (sizes_of header) memory.words value)
  pub fences : (value : ℕ) → value < header.values → FencesRight (sizes_of header) memory value
  pub apart : NoRowInTwo header memory
