-- Definitions that the contracts of inner functions alone cite: the groups of all values, laid out in one pass over the column, and the
-- blocks that are packed from them.
use Rattle.std.specs.Prelude.{◌≡◌, ℕ, zero, suc, ◌+◌, ◌*◌, ◌<◌, Bool, ◌&&◌, List, [], ◌++◌, length, drop, ◌==◌, ◌≢◌, slice_index}
use Rattle.groups.specs.Rows.{groups_for, groups_of}
use Rattle.blocks.specs.Block.{part, write}
use Rattle.blocks.specs.declared.sizes.Sizes.{Sizes}
use Rattle.load_list.specs.Column.{rows_with, loaded}
use Rattle.load_list.specs.Inner.{all_alike, packed_block}
use Rattle.memory.specs.Memory.{block_at}

-- whether some rows are a whole group and hold one byte
abbrev pub one_byte : List ℕ → Bool
one_byte rows = length rows == 31 && all_alike (slice_index rows 0) rows

-- 0 stands at one place of the block of each value
abbrev pub Clear : ℕ → ℕ → ℕ → List ℕ → Type 0
Clear values block place words = (value : ℕ) → value < values → slice_index words (value * block + place) ≡ 0

-- in the block of each value the word at one place is the value's group, and no other word is changed
pub record Placed (values block place : ℕ) (groups : ℕ → ℕ) (words left : List ℕ) : Type 0 where
  pub same : length left ≡ length words
  pub put : (value : ℕ) → value < values → slice_index left (value * block + place) ≡ groups value
  pub kept : (i : ℕ) → ((value : ℕ) → value < values → i ≢ value * block + place) → slice_index left i ≡ slice_index words i

-- the groups of each value's rows stand in the first words of its V's room, and nothing behind the last block is changed
pub record Spread (block values : ℕ) (column words left : List ℕ) : Type 0 where
  pub same : length left ≡ length words
  pub groups : (value : ℕ) → value < values → part left (value * block + 2) (groups_for (length column)) ≡ groups_of (rows_with value column)
  pub behind : drop (values * block) left ≡ drop (values * block) words

-- the blocks of the first values, one after the other
abbrev pub blocks_to : (ℕ → List ℕ) → ℕ → List ℕ
blocks_to block zero = []
blocks_to block (suc value) = blocks_to block value ++ block value

-- the words with each block packed from the groups that stand first in its V's room
unfoldable pub packed_words : Sizes → ℕ → ℕ → List ℕ → List ℕ
packed_words sizes filled values words = write words 0 (blocks_to (λ value. packed_block sizes filled (block_at sizes words value)) values)

-- the words with the block of each value of a column
unfoldable pub loaded_words : Sizes → List ℕ → ℕ → List ℕ → List ℕ
loaded_words sizes column values words = write words 0 (blocks_to (λ value. loaded sizes value column) values)
