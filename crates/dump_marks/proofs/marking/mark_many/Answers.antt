-- `mark_many` meets its contract: the rows are copied to other bytes, marked there, and copied back. Assumes nothing.
use mathlib.Core.Path.{◌≡◌, ◌∙◌, ap}
use lib.ListN.{length, take, replicate}
use native.Mathlib.Omega.{arith}
use Rattle.dump_marks.specs.Inner.{each_row, every_row, free_in_group, marked_in_group}
use Rattle.dump_marks.proofs.marking.Copied.{copied_there, copied_back}
use Rattle.dump_marks.proofs.marking.Whole.{told_rows, marked_rows}
use Rattle.dump_marks.proofs.marking.mark_many.Goals as goal

pub returns : goal.returns
returns c =
    let rows = c.args.rows.now in
    let bytes = c.copy_rows-3.new.to in
    let own : length bytes ≡ 32 = omega arith in
    let there = copied_there rows (replicate 32 0) _ _ bytes (omega arith) c.copy_rows.ensures c.copy_rows-2.ensures c.copy_rows-3.ensures
    c.requires in
    let back = copied_back c.mark_whole-free.new.rows rows _ _ _ (omega arith) c.copy_rows-4.ensures c.copy_rows-5.ensures c.copy_rows-6.ensures
    c.requires in (
      c.mark_whole-free.ensures.0 ∙ told_rows c.args.group bytes own ∙ ap (every_row (free_in_group c.args.group) 0) there,
      λ held. back ∙ ap (take 31) (c.mark_whole-free.ensures.1 held) ∙ marked_rows c.args.group bytes own c.args.value
          ∙ ap (each_row (marked_in_group c.args.group c.args.value) 0) there,
    )
