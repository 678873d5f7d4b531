-- `mark_whole` meets its contract. The loop's invariant is `Passing`: the rows before `row` are told and marked. Assumes nothing.
use Rattle.dump_marks.specs.Inner.{free_in_groups, marked_in_groups, alike}
use Rattle.dump_marks.proofs.marking.Passing.{Passing}
use Rattle.dump_marks.proofs.marking.mark_whole.Given as goal

abbrev pub invariant-loop-row : goal.invariant-loop-row
invariant-loop-row l =
    Passing (free_in_groups (alike l.group) 0 1 31) (marked_in_groups (alike l.group) 0 1 31 l.value) l.initial.rows l.rows l.free l.row
