-- `xor_into` writes the XOR of two lists. The loop's invariant is `Combining`: the first `done` groups of both lists are combined and, but for
-- what is pending, written. A turn copies words of the left list and takes a step after them. The measure is how many groups are left.
use mathlib.Core.Path.{◌≡◌}
use Prim.Native.Nat.{◌-◌}
use Rattle.lists.specs.Combine.{exclusive}
use Rattle.combinations.proofs.combine.Spans.{Combining}
use Rattle.combinations.proofs.combine.xor_into.Given as goal

abbrev pub invariant-loop-done : goal.invariant-loop-done
invariant-loop-done l =
    record {
      combining : Combining exclusive l.left l.right l.groups l.fn.out l.list l.from_left l.from_right l.done;
      same_reference : l.list.out.ghost_name ≡ l.initial.list.out.ghost_name;
    }

abbrev pub decreases-loop-done : goal.decreases-loop-done
decreases-loop-done l = l.groups - l.done
