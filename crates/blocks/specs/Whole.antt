-- Document 01, "What the calls do": both lists of a value are checked whole: length, canonical form, M groups, bits past R zero, at most T ones in U.
use Rattle.std.specs.Prelude.{Bool, ◌&&◌, List, ℕ, leb}
use Rattle.groups.specs.Rows.{rows_of, ones_in}
use Rattle.words.specs.Words.{decode, canonical}
use Rattle.blocks.specs.Sizes.{value_room, update_room}
use Rattle.blocks.specs.Block.{value_length, update_length, value_list, update_list}
use Rattle.blocks.specs.declared.sizes.Sizes.{Sizes}

-- how many ones U has
unfoldable pub update_ones : Sizes → List ℕ → ℕ
update_ones sizes block = ones_in (rows_of (decode (update_list sizes block)))

-- whether both lists are whole
unfoldable pub whole_lists : Sizes → List ℕ → Bool
whole_lists sizes block =
    leb (value_length block) (value_room sizes)
    && leb (update_length block) (update_room sizes)
    && canonical sizes.rows (value_list sizes block)
    && canonical sizes.rows (update_list sizes block)
    && leb (update_ones sizes block) sizes.threshold
