-- `read_full` has read no more than the buffer holds.
use Rattle.std.proofs.Common.{◌≤◌, length}
use Rattle.print.proofs.read_full.Given as goal

abbrev pub invariant-loop : goal.invariant-loop
invariant-loop l = l.count ≤ length l.input
