-- `ones_of` meets its contract. The loop's invariant is `Counted`: the ones of the words read. Assumes nothing.
use Rattle.list_check.proofs.check.Counting.{Counted}
use Rattle.list_check.proofs.check.ones_of.Given as goal

abbrev pub invariant-loop-word : goal.invariant-loop-word
invariant-loop-word l = Counted l.list l.ones l.word-index
