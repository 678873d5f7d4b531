-- Document 01, "Memory of an index": Audit's part for one value.
use Rattle.std.specs.Prelude.{Bool, ◌&&◌, List, ℕ, drop}
use Rattle.groups.specs.Rows.{all_zero, clear_from}
use Rattle.words.specs.Words.{decode}
use Rattle.blocks.specs.Block.{value_length, update_length, value_words, update_words, value_list, update_list}
use Rattle.blocks.specs.Whole.{whole_lists}
use Rattle.blocks.specs.declared.sizes.Sizes.{Sizes}

-- no bit of V or U at row n or above
unfoldable pub clear_lists : Sizes → ℕ → List ℕ → Bool
clear_lists sizes issued block = clear_from issued (decode (value_list sizes block)) && clear_from issued (decode (update_list sizes block))

-- unused list words are zero
unfoldable pub unused_zero : Sizes → List ℕ → Bool
unused_zero sizes block = all_zero (drop (value_length block) (value_words sizes block)) && all_zero (drop (update_length block) (update_words sizes block))

-- V and U are canonical for M groups with no bit at row n or above, U has at most T ones, and unused list words are zero
unfoldable pub sound_lists : Sizes → ℕ → List ℕ → Bool
sound_lists sizes issued block = whole_lists sizes block && clear_lists sizes issued block && unused_zero sizes block
