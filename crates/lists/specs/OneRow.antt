-- The list of one row alone, by which a row is turned over in a list, and the list of no row.
use Rattle.std.specs.Prelude.{List, ℕ, ◌-◌, get_or, set}
use Rattle.groups.specs.Rows.{groups_of, rows_of}

-- the groups with the row turned over
unfoldable pub turned_over : ℕ → List ℕ → List ℕ
turned_over row groups = groups_of (set (rows_of groups) row (1 - get_or (rows_of groups) row 0))
