-- The cases hold, all of them by one computation. Assumes nothing.
use mathlib.Core.Path.{refl}
use Rattle.groups.specs.Rows.{clear_from}
use Rattle.words.specs.Words.{run_of, add_group, canonical}
use Rattle.lists.specs.Combine.{on_group}
use Rattle.blocks.specs.Sizes.{fences_for}
use Rattle.blocks.specs.Block.{part, write, value_words, update_words, value_list, update_list, current, padded, block_of, zero_list}
use Rattle.load_list.specs.Column.{list_for, loaded}
use Rattle.blocks.specs.Whole.{update_ones, whole_lists}
use Rattle.memory.specs.Memory.{limits, within_limits, lent, block_at, rows_in}
use Rattle.change_value.specs.Change.{whole, put_block, renewed}
use Rattle.index.specs.Calls.{load_after, query_list, query_outcome}
use Rattle.digits.specs.Digits.{digit_of}
use Rattle.print.specs.Frame.{line_in, is_frame}
use Rattle.print.specs.Text.{value_line, refusal_line}
use Rattle.print.specs.Printed.{cleared, answer_line, query_line, column_lines, frame_lines, printed}
use Rattle.print.specs.Cases.{cases, Printing}

-- THEOREM: document 01's example of the printing program, and each refusal
pub printing : Printing
unfolding cases printed frame_lines line_in is_frame digit_of column_lines cleared load_after limits within_limits lent put_block renewed block_at rows_in part write value_words update_words value_list update_list current padded block_of zero_list list_for loaded fences_for update_ones whole_lists whole query_list query_outcome query_line answer_line value_line refusal_line clear_from run_of add_group canonical on_group
printing = refl
