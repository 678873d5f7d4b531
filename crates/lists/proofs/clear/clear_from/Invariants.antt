-- `clear_from` meets its contract. The loop's invariant is `ZerosFrom`: the words that are passed are all zero.
use Prim.Native.Nat.{◌-◌}
use lib.ListN.{length}
use Rattle.lists.proofs.clear.Ends.{ZerosFrom}
use Rattle.lists.proofs.clear.clear_from.Given as goal

abbrev pub invariant-loop-word : goal.invariant-loop-word
invariant-loop-word l = ZerosFrom l.list l.row l.end (length l.list - length l.yielded)
