-- Document 01, "Memory of an index": the header's limits, the blocks and fences of each value, and the index that is sound.
use Rattle.std.specs.Prelude.{Bool, true, ◌&&◌, List, ℕ, zero, suc, ◌+◌, ◌*◌, leb, length}
use Rattle.groups.specs.Rows.{row_limit, row_at}
use Rattle.blocks.specs.Sizes.{sizes_for, block_size, fence_count}
use Rattle.blocks.specs.Block.{part, value_list, current}
use Rattle.blocks.specs.Audit.{sound_lists}
use Rattle.blocks.specs.declared.sizes.Sizes.{Sizes}
use Rattle.memory.specs.Fences.{right_fences}
use Rattle.memory.specs.declared.header.Header.{Header}
use Rattle.block_read.specs.declared.fence.Fence.{Fence}

-- the lent words and fence records
pub record Memory : Type 0 where
  pub words : List ℕ
  pub fences : List Fence

abbrev pub memory_of : List ℕ → List Fence → Memory
memory_of words fences = record { words = words; fences = fences }

-- a number from the first to the second
abbrev pub between : ℕ → ℕ → ℕ → Bool
between low high number = leb low number && leb number high

-- R is 1 to 126,976, d 1 to 64, T 1 to 255, G 1 to 256
unfoldable pub limits : ℕ → ℕ → ℕ → ℕ → Bool
limits rows values threshold spacing = between 1 row_limit rows && between 1 64 values && between 1 255 threshold && between 1 256 spacing

-- and n is 0 to R
unfoldable pub within_limits : Header → Bool
within_limits header = limits header.rows header.values header.threshold header.spacing && leb header.issued header.rows

-- the sizes that all values share
abbrev pub sizes_of : Header → Sizes
sizes_of header = sizes_for header.rows header.threshold header.spacing

-- d x B words and d x F fences are lent
unfoldable pub lent : Header → ℕ → ℕ → Bool
lent header words fences = leb (header.values * block_size (sizes_of header)) words && leb (header.values * fence_count (sizes_of header)) fences

-- value v has a block of B words from v x B
unfoldable pub block_at : Sizes → List ℕ → ℕ → List ℕ
block_at sizes words value = part words (value * block_size sizes) (block_size sizes)

-- its value list
abbrev pub list_at : Sizes → List ℕ → ℕ → List ℕ
list_at sizes words value = value_list sizes (block_at sizes words value)

-- its rows: the groups of V xor U
unfoldable pub rows_in : Sizes → List ℕ → ℕ → List ℕ
rows_in sizes words value = current sizes (block_at sizes words value)

-- fence j of value v is record v x F + j
unfoldable pub fences_at : Sizes → List Fence → ℕ → List Fence
fences_at sizes fences value = part fences (value * fence_count sizes) (fence_count sizes)

-- V and U are canonical for M groups with no bit at row n or above, U has at most T ones, unused list words are zero, and every fence is right
unfoldable pub sound_value : Header → Memory → ℕ → Bool
sound_value header memory value =
    let sizes = sizes_of header in
    sound_lists sizes header.issued (block_at sizes memory.words value)
    && right_fences sizes (list_at sizes memory.words value) 0 (fences_at sizes memory.fences value)

-- whether a test holds of every number below the given one
abbrev pub every : ℕ → (ℕ → Bool) → Bool
every zero test = true
every (suc count) test = every count test && test count

-- in how many of the first values the row has a 1 in V xor U
abbrev pub holders_of : Sizes → List ℕ → ℕ → ℕ → ℕ
holders_of sizes words row zero = 0
holders_of sizes words row (suc value) = holders_of sizes words row value + row_at (rows_in sizes words value) row

-- sound: the header is within its limits, every value is sound, and no row has a 1 in V xor U of two values
unfoldable pub is_sound : Header → Memory → Bool
is_sound header memory =
    within_limits header
    && lent header (length memory.words) (length memory.fences)
    && every header.values (sound_value header memory)
    && every header.issued (λ row. leb (holders_of (sizes_of header) memory.words row header.values) 1)
