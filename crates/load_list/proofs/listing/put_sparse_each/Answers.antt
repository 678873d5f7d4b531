-- `put_sparse_each` meets its contract: after so many turns as many groups are taken in. Assumes nothing.
use Prim.Native.Nat.{◌+◌, ◌-◌}
use native.Mathlib.Omega.{arith}
use lib.ListN.{get_or}
use Rattle.load_list.proofs.listing.Loop.{follows_step, step_fits, some_room, clear_on, part-fits, part_follows, one_group}
use Rattle.load_list.proofs.listing.Sparse.{sparse_taken, sparse_pending, none-full}
use Rattle.load_list.proofs.listing.put_sparse_each.Goals as goal

pub put_sparse-list-requires : goal.put_sparse-list-requires
put_sparse-list-requires c =
    let l = c.loop-group in
    let i = l.group-index in
    let groups = c.args.groups.now in
    let fits = rw (one_group groups i (omega arith)) at (part-fits c.requires.0 i l.invariant.follows (i + 1 - i)) in
    let taken = sparse_taken l.list.pending (get_or groups i 0) l.invariant.zeros (none-full groups c.requires.3 i (omega arith)) in
    let clear = clear_on l.invariant.follows c.requires.1 in
    (omega (arith, fits.few), some_room fits (omega arith), clear.behind l.list.written (omega arith), step_fits fits taken)

pub loop-group-preserved : goal.loop-group-preserved
loop-group-preserved c =
    let l = c.loop-group in
    let i = l.group-index in
    let groups = c.args.groups.now in
    let taken = sparse_taken l.list.pending (get_or groups i 0) l.invariant.zeros (none-full groups c.requires.3 i (omega arith)) in
    let pending = sparse_pending l.list.pending.count (get_or groups i 0) _ c.zeros_after-list.ensures in
    let put = c.put_sparse-list.ensures in
    record {
      follows =
          part_follows c.requires.0 i l.invariant.follows (i + 1) (omega arith)
          (rw (one_group groups i (omega arith)) (follows_step taken put.0 (rw l.invariant.zeros pending) put.1));
      zeros = l.invariant.zeros;
      same_reference = l.invariant.same_reference;
    }
