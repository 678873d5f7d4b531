-- Definitions that the contracts of inner functions alone cite: Dump span by span, fence by fence and value by value. Each row has a byte, 255 while
-- no value has it.
use Rattle.std.specs.Prelude.{Option, Bool, true, ◌&&◌, List, [], ◌∷◌, ℕ, zero, suc, min, ◌+◌, ◌*◌, ltb, length, get_or, take}
use Rattle.answers.specs.Outcome.{◌when◌, Outcome, outcome}
use Rattle.answers.specs.declared.Refusal.TheVariants.{OutSmall}
use Rattle.groups.specs.Rows.{groups_for}
use Rattle.list_walk.specs.Walk.{walk_to}
use Rattle.blocks.specs.Sizes.{update_room, fences_for, fence_count}
use Rattle.blocks.specs.declared.sizes.Sizes.{Sizes}
use Rattle.block_read.specs.Read.{group_read, joined, read_group}
use Rattle.block_read.specs.declared.fence.Fence.{Fence}
use Rattle.block_read.specs.declared.read.Reading.{Reading}
use Rattle.dump_marks.specs.Inner.{each_row, every_row, free_in_groups, marked_in_groups}
use Rattle.memory.specs.Memory.{Memory, sizes_of, block_at}
use Rattle.memory.specs.Fences.{no_fence}
use Rattle.memory.specs.declared.header.Header.{Header}

-- ---- a span of groups, which one fence serves

-- readings by the walks over V from a word on, whose first group is given, and over U
abbrev pub in_lists : Sizes → List ℕ → List ℕ → ℕ → ℕ → Option Reading
in_lists sizes value update first group =
    joined (group_read (walk_to value first group sizes.spacing)) (group_read (walk_to update 0 group (update_room sizes)))

-- readings of a block, given a fence
abbrev pub in_block : Sizes → Fence → List ℕ → ℕ → Option Reading
in_block sizes fence block group = read_group sizes fence group block

module _ (sizes : Sizes) (fence : Fence) (block : List ℕ) (from to issued : ℕ) where
  -- what the span says of a row
  abbrev pub free_in_span : ℕ → ℕ → Bool
  free_in_span = free_in_groups (in_block sizes fence block) from to issued

  -- and makes of its byte
  abbrev pub marked_in_span : ℕ → ℕ → ℕ → ℕ
  marked_in_span = marked_in_groups (in_block sizes fence block) from to issued

  -- every row of the span is read, and none is in a value before this one
  unfoldable pub span_holds : List ℕ → Bool
  span_holds rows = every_row free_in_span 0 rows

  -- the bytes with the value for the span's rows that it has
  unfoldable pub span_marked : ℕ → List ℕ → List ℕ
  span_marked value rows = each_row (marked_in_span value) 0 rows

-- ---- the fences of a value

-- fence j serves the groups from j x G up to (j + 1) x G; those with a row below n are read and their rows marked
module _ (sizes : Sizes) (fence : Fence) (block : List ℕ) (issued j : ℕ) where
  unfoldable pub fence_holds : List ℕ → Bool
  fence_holds rows = span_holds sizes fence block (j * sizes.spacing) (min (j * sizes.spacing + sizes.spacing) (groups_for issued)) issued rows

  unfoldable pub fence_marked : ℕ → List ℕ → List ℕ
  fence_marked value rows =
      span_marked sizes fence block (j * sizes.spacing) (min (j * sizes.spacing + sizes.spacing) (groups_for issued)) issued value rows

-- fence j of value v is record v x F + j
abbrev pub fence_number : Sizes → Memory → ℕ → ℕ → Fence
fence_number sizes memory value j = get_or memory.fences (value * fence_count sizes + j) no_fence

-- the first fences of a value, one after the other
module _ (header : Header) (memory : Memory) (value : ℕ) where
  -- what the fence holds of some bytes, and makes of them
  abbrev pub turn_holds : List ℕ → ℕ → Bool
  turn_holds rows j =
      fence_holds (sizes_of header) (fence_number (sizes_of header) memory value j) (block_at (sizes_of header) memory.words value) header.issued j rows

  abbrev pub turn_marked : List ℕ → ℕ → List ℕ
  turn_marked rows j =
      fence_marked (sizes_of header) (fence_number (sizes_of header) memory value j) (block_at (sizes_of header) memory.words value) header.issued j value rows

  abbrev pub marked_fences : List ℕ → ℕ → List ℕ
  marked_fences rows zero = rows
  marked_fences rows (suc j) = turn_marked (marked_fences rows j) j

  abbrev pub fences_hold : List ℕ → ℕ → Bool
  fences_hold rows zero = true
  fences_hold rows (suc j) = fences_hold rows j && turn_holds (marked_fences rows j) j

-- ---- the values

-- the first values, one after the other: of each, the fences that serve a row below n
module _ (header : Header) (memory : Memory) where
  abbrev pub marked_values : List ℕ → ℕ → List ℕ
  marked_values rows zero = rows
  marked_values rows (suc value) = marked_fences header memory value (marked_values rows value) (fences_for (groups_for header.issued) header.spacing)

  abbrev pub values_hold : List ℕ → ℕ → Bool
  values_hold rows zero = true
  values_hold rows (suc value) =
      values_hold rows value && fences_hold header memory value (marked_values rows value) (fences_for (groups_for header.issued) header.spacing)

-- the first n bytes are given, if the output has room for them
unfoldable pub rows_given : ℕ → List ℕ → List ℕ → Outcome
rows_given issued rows out = outcome (OutSmall when ltb (length out) issued ∷ []) (take issued rows) out
