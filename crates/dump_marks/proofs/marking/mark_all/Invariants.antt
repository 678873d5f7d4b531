-- `mark_all` meets its contract. The loop's invariant is `Passing`: the rows before `row` are told and marked. Assumes nothing.
use Rattle.words.specs.Words.{all_ones}
use Rattle.dump_marks.specs.Inner.{free_in_group, marked_in_group}
use Rattle.dump_marks.proofs.marking.Passing.{Passing}
use Rattle.dump_marks.proofs.marking.mark_all.Given as goal

abbrev pub invariant-loop-row : goal.invariant-loop-row
invariant-loop-row l = Passing (free_in_group all_ones) (marked_in_group all_ones l.value) l.initial.rows l.rows l.free l.row-index
