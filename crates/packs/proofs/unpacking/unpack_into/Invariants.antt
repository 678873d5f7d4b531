-- `unpack_into` meets its contract. The loop's invariant is `Unpacking`: the rows of the words read stand in the output. Assumes nothing.
use Rattle.packs.proofs.unpacking.Loop.{Unpacking}
use Rattle.packs.proofs.unpacking.unpack_into.Given as goal

abbrev pub invariant-loop-word : goal.invariant-loop-word
invariant-loop-word l = Unpacking l.list l.initial.out l.out l.at l.word-index
