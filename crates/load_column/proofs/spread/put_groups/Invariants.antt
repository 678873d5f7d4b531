-- `put_groups` meets its contract: after so many turns the groups of as many values are put. Assumes nothing.
use Rattle.std.proofs.Common.{get_or}
use Rattle.load_column.specs.Inner.{Placed}
use Rattle.load_column.proofs.spread.put_groups.Given as goal

abbrev pub invariant-loop-value : goal.invariant-loop-value
invariant-loop-value l = Placed l.value l.block l.place (λ v. get_or l.groups v 0) l.initial.words l.words
