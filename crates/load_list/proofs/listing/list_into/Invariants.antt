-- `list_into` takes in eight groups at a time, those left one by one, and by a last step those behind. Assumes nothing.
use mathlib.Core.Path.{◌≡◌}
use Prim.Native.Nat.{◌*◌}
use lib.ListN.{take}
use Rattle.words.specs.Inner.{Follows}
use Rattle.load_list.proofs.listing.list_into.Given as goal

abbrev pub invariant-loop-part : goal.invariant-loop-part
invariant-loop-part l =
    record {
      follows : Follows (take (l.part-index * 8) l.fn.groups) l.initial.list l.list;
      same_reference : l.list.out.ghost_name ≡ l.initial.list.out.ghost_name;
    }
