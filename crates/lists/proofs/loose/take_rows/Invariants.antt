-- `take_rows` meets its contract. The loop's invariant: the rows in front of place i are taken, and no row is shared where none is so far and
-- none is still to come.
use Rattle.lists.specs.Combine.{combined}
use Rattle.lists.specs.Inner.{either}
use Rattle.lists.proofs.loose.Loops.{Replacing, Sharing}
use Rattle.lists.proofs.loose.take_rows.Given as goal

abbrev pub invariant-loop-i : goal.invariant-loop-i
invariant-loop-i l = Replacing l.initial.taken (combined either l.initial.taken l.groups) l.taken l.i × Sharing l.initial.taken l.groups l.twice l.i
