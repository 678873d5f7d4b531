-- `short_group`: after i turns the first i rows are gathered, the first of them the highest. Assumes nothing.
use Rattle.groups.proofs.Gather.{Gathered}
use Rattle.groups.proofs.rows.short_group.Given as goal

abbrev pub invariant-loop-row : goal.invariant-loop-row
invariant-loop-row l = Gathered l.rows l.group l.row-index
