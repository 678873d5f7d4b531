-- Document 01, "What the calls do": Load's part for one value: the list of the rows of a column that hold it, with empty updates.
use Rattle.std.specs.Prelude.{cond, List, [], ◌∷◌, ℕ, eqb}
use Rattle.groups.specs.Rows.{cut}
use Rattle.words.specs.Words.{encode}
use Rattle.blocks.specs.Block.{block_of, zero_list}
use Rattle.blocks.specs.declared.sizes.Sizes.{Sizes}

-- 1 for each row of a column that holds the value
abbrev pub rows_with : ℕ → List ℕ → List ℕ
rows_with value [] = []
rows_with value (byte ∷ column) = cond (eqb byte value) 1 0 ∷ rows_with value column

-- the groups of these rows, all zero past the last row
abbrev pub groups_with : Sizes → ℕ → List ℕ → List ℕ
groups_with sizes value column = cut sizes.groups (rows_with value column)

-- the value list of a column
unfoldable pub list_for : Sizes → ℕ → List ℕ → List ℕ
list_for sizes value column = encode (groups_with sizes value column)

-- the block of a column's value
unfoldable pub loaded : Sizes → ℕ → List ℕ → List ℕ
loaded sizes value column = block_of sizes (list_for sizes value column) (zero_list sizes)
