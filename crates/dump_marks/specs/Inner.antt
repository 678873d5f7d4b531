-- Definitions that the contracts of inner functions alone cite: Dump's part for one value. Each row has a byte, 255 while no value has it; the rows
-- that are 1 in V xor U get the value.
use Rattle.std.specs.Prelude.{Option, Some, None, Bool, true, false, cond, ◌&&◌, ◌||◌, List, [], ◌∷◌, ℕ, suc, ◌-◌, ◌/◌, ◌%◌, ◌^◌, leb, ltb, eqb}
use Rattle.block_read.specs.declared.read.Reading.{Reading}

-- bytes changed row by row, the first of them being that of the row given
abbrev pub each_row : (ℕ → ℕ → ℕ) → ℕ → List ℕ → List ℕ
each_row change row [] = []
each_row change row (byte ∷ bytes) = change row byte ∷ each_row change (suc row) bytes

-- whether a test holds of every row and its byte
abbrev pub every_row : (ℕ → ℕ → Bool) → ℕ → List ℕ → Bool
every_row test row [] = true
every_row test row (byte ∷ bytes) = test row byte && every_row test (suc row) bytes

-- whether the row's bit of its group is 0
abbrev pub is_clear : ℕ → ℕ → Bool
is_clear group row = eqb (group / 2 ^ (30 - row % 31) % 2) 0

-- no other value has the row, if this one has it
abbrev pub free_in_group : ℕ → ℕ → ℕ → Bool
free_in_group group row byte = is_clear group row || eqb byte 255

-- the row's byte is the value, if it has the row
abbrev pub marked_in_group : ℕ → ℕ → ℕ → ℕ → ℕ
marked_in_group group value row byte = cond (is_clear group row) byte value

-- the same of a group that was read: a broken read is damage
abbrev pub free_in_reading : Option Reading → ℕ → ℕ → Bool
free_in_reading (Some reading) row byte = free_in_group reading.group row byte
free_in_reading None row byte = false

abbrev pub marked_in_reading : Option Reading → ℕ → ℕ → ℕ → ℕ
marked_in_reading (Some reading) value row byte = marked_in_group reading.group value row byte
marked_in_reading None value row byte = byte

-- a row below n in the groups from one up to another
abbrev pub in_span : ℕ → ℕ → ℕ → ℕ → Bool
in_span from to issued row = leb from (row / 31) && (ltb (row / 31) to && ltb row issued)

module _ (reading : ℕ → Option Reading) (from to issued : ℕ) where
  -- what the readings of a span of groups say of a row
  abbrev pub free_in_groups : ℕ → ℕ → Bool
  free_in_groups row byte = cond (in_span from to issued row) (free_in_reading (reading (row / 31)) row byte) true

  -- and make of its byte
  abbrev pub marked_in_groups : ℕ → ℕ → ℕ → ℕ
  marked_in_groups value row byte = cond (in_span from to issued row) (marked_in_reading (reading (row / 31)) value row byte) byte

  -- every row of the span is read, and none is in a value before this one
  unfoldable pub groups_hold : List ℕ → Bool
  groups_hold rows = every_row free_in_groups 0 rows

  -- the bytes with the value for the span's rows that it has
  unfoldable pub groups_marked : ℕ → List ℕ → List ℕ
  groups_marked value rows = each_row (marked_in_groups value) 0 rows

-- readings of the same bits in every group
abbrev pub alike : ℕ → ℕ → Option Reading
alike bits group = Some (record { group = bits; opened = 0 })
