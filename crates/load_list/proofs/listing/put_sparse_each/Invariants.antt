-- `put_sparse_each` meets its contract: after so many turns as many groups are taken in. Assumes nothing.
use mathlib.Core.Path.{◌≡◌}
use lib.ListN.{take}
use Rattle.words.specs.Inner.{Follows}
use Rattle.load_list.proofs.listing.put_sparse_each.Given as goal

abbrev pub invariant-loop-group : goal.invariant-loop-group
invariant-loop-group l =
    record {
      follows : Follows (take l.group-index l.groups) l.fn.list l.list;
      zeros : l.list.pending.bit ≡ 0;
      same_reference : l.list.out.ghost_name ≡ l.fn.list.out.ghost_name;
    }
