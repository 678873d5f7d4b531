-- Document 01, "Words and groups": rows and their groups of 31. A row is the number 0 or 1, as its byte is.
use Rattle.std.specs.Prelude.{Bool, true, ◌&&◌, List, [], ◌∷◌, ◌++◌, ℕ, zero, suc, ◌+◌, ◌*◌, ◌-◌, ◌/◌, ◌%◌, ◌^◌, ltb, eqb, length, get_or, drop}

-- the most rows a list can have
abbrev pub row_limit : ℕ
row_limit = 126976

-- whether each row is 0 or 1
abbrev pub are_bits : List ℕ → Bool
are_bits [] = true
are_bits (row ∷ rows) = ltb row 2 && are_bits rows

-- how many of some rows are 1
abbrev pub ones_in : List ℕ → ℕ
ones_in [] = 0
ones_in (row ∷ rows) = row + ones_in rows

-- M: the number of groups of L rows, L divided by 31 and rounded up
abbrev pub groups_for : ℕ → ℕ
groups_for rows = (rows + 30) / 31

-- the number of k bits whose highest bit is the first row; bits past the last row are zero
abbrev pub group_of : ℕ → List ℕ → ℕ
group_of zero rows = 0
group_of (suc k) [] = 0
group_of (suc k) (row ∷ rows) = row * 2 ^ k + group_of k rows

-- the first `count` groups of some rows
abbrev pub cut : ℕ → List ℕ → List ℕ
cut zero rows = []
cut (suc count) rows = group_of 31 rows ∷ cut count (drop 31 rows)

-- the groups of some rows
unfoldable pub groups_of : List ℕ → List ℕ
groups_of rows = cut (groups_for (length rows)) rows

-- the k lowest bits of a group, the highest first
abbrev pub bits_of : ℕ → ℕ → List ℕ
bits_of zero group = []
bits_of (suc k) group = group / 2 ^ k % 2 ∷ bits_of k group

-- the rows of some groups, 31 a group
abbrev pub rows_of : List ℕ → List ℕ
rows_of [] = []
rows_of (group ∷ groups) = bits_of 31 group ++ rows_of groups

-- row r is in group r div 31, at bit 30 - (r mod 31)
abbrev pub row_at : List ℕ → ℕ → ℕ
row_at groups row = get_or groups (row / 31) 0 / 2 ^ (30 - row % 31) % 2

-- whether all of some rows are 0
abbrev pub all_zero : List ℕ → Bool
all_zero [] = true
all_zero (row ∷ rows) = eqb row 0 && all_zero rows

-- whether no row from the given one on is 1
unfoldable pub clear_from : ℕ → List ℕ → Bool
clear_from row groups = all_zero (drop row (rows_of groups))
