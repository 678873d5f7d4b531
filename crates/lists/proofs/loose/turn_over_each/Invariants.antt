-- `turn_over_each` meets its contract. The loop's invariant: the groups in front of place i are turned over, the others are as they were.
use lib.ListN.{length, replicate}
use Rattle.lists.specs.Combine.{exclusive, combined}
use Rattle.lists.proofs.loose.Loops.{Replacing}
use Rattle.lists.proofs.loose.turn_over_each.Given as goal

abbrev pub invariant-loop-turned : goal.invariant-loop-turned
invariant-loop-turned l = Replacing l.initial.groups (combined exclusive l.initial.groups (replicate (length l.initial.groups) l.group)) l.groups l.turned-index
