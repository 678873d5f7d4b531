-- `pass_from` meets its contract. The loop's invariant is `PassedTo`: what the bits and the sum say of the words read. Assumes nothing.
use Rattle.std.proofs.Common.{◌≤◌}
use Rattle.list_check.specs.Inner.{PassedTo}
use Rattle.list_check.proofs.check.pass_from.Given as goal

abbrev pub invariant-loop-i : goal.invariant-loop-i
invariant-loop-i l = PassedTo l.list l.gathered l.covered l.i × (1 ≤ l.i)
