-- `gather_groups` meets its contract: after i turns the first i rows are gathered. Assumes nothing.
use Rattle.load_column.proofs.spread.Gathering.{Gathering}
use Rattle.load_column.proofs.spread.gather_groups.Given as goal

abbrev pub invariant-loop-row : goal.invariant-loop-row
invariant-loop-row l = Gathering l.rows l.initial.groups l.groups l.mask l.row-index
