-- `mark_few` meets its contract. The loop's invariant is `Marking`: the rows whose bit is no longer in `rest` are done. Assumes nothing.
use Rattle.dump_marks.proofs.marking.Marking.{Marking}
use Rattle.dump_marks.proofs.marking.mark_few.Given as goal

abbrev pub invariant-loop-rest : goal.invariant-loop-rest
invariant-loop-rest l = Marking l.initial.rows l.rows l.group l.value l.rest

abbrev pub decreases-loop-rest : goal.decreases-loop-rest
decreases-loop-rest l = l.rest
