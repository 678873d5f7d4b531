-- `turn_over_groups` meets its contract. The loop's invariant is `Turning`: the groups of the words read are turned over.
use Rattle.lists.proofs.loose.Turning.{Turning}
use Rattle.lists.proofs.loose.turn_over_groups.Given as goal

abbrev pub invariant-loop-word : goal.invariant-loop-word
invariant-loop-word l = Turning l.list l.initial.groups l.groups l.at l.word-index
