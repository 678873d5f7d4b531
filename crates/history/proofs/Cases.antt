-- The marked cases hold, all of them by one computation. Assumes nothing.
use mathlib.Core.Path.{refl}
use Rattle.groups.specs.Rows.{groups_of, clear_from}
use Rattle.words.specs.Words.{run_of, add_group, packed, canonical}
use Rattle.packs.specs.Calls.{pack_outcome}
use Rattle.lists.specs.Combine.{on_group}
use Rattle.lists.specs.OneRow.{turned_over}
use Rattle.blocks.specs.Sizes.{fences_for}
use Rattle.blocks.specs.Block.{part, write, value_words, update_words, value_list, update_list, current, padded, with_update, block_of, zero_list}
use Rattle.blocks.specs.Whole.{update_ones, whole_lists}
use Rattle.list_walk.specs.Walk.{walk_to}
use Rattle.block_read.specs.Read.{read_value, read_update, read_group}
use Rattle.block_read.specs.Fences.{fence_at}
use Rattle.load_list.specs.Column.{list_for, loaded}
use Rattle.block_change.specs.Change.{merged, turned_list, turned, merge_due, flipped}
use Rattle.memory.specs.Memory.{limits, within_limits, lent, block_at, rows_in}
use Rattle.memory.specs.Reading.{fence_for, read_in, row_of, value_of}
use Rattle.change_value.specs.Change.{whole, merges_in, put_block, flipped_words, renewed, flipped_in}
use Rattle.index.specs.Calls.{load_after, query_list, query_outcome, value_outcome, insert_after, delete_after, update_after}
use Rattle.history.specs.Cases.{Marked}

-- THEOREM: document 01's marked cases, packing and index together
pub marked : Marked
unfolding
    groups_of clear_from run_of add_group packed canonical pack_outcome on_group turned_over walk_to fences_for part write value_words update_words
    value_list update_list current padded with_update block_of zero_list read_value read_update read_group update_ones whole_lists merged turned_list turned
    merge_due flipped list_for loaded fence_at limits within_limits lent block_at rows_in fence_for read_in row_of value_of whole merges_in put_block flipped_words
    renewed flipped_in load_after query_list query_outcome value_outcome insert_after delete_after update_after
marked = refl
