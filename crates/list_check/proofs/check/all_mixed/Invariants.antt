-- `all_mixed` meets its contract. The loop's invariant is `Unmarked`: where no mark is gathered, the words read are mixed. Assumes nothing.
use Rattle.list_check.proofs.check.Marks.{Unmarked}
use Rattle.list_check.proofs.check.all_mixed.Given as goal

abbrev pub invariant-loop-word : goal.invariant-loop-word
invariant-loop-word l = Unmarked l.words l.marks l.word-index
