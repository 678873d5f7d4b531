-- `put_each` meets its contract: after so many turns as many groups are taken in. Assumes nothing.
use Prim.Native.Nat.{◌+◌, ◌-◌}
use native.Mathlib.Omega.{arith}
use Rattle.load_list.proofs.listing.Loop.{part-fits, part_follows, one_group}
use Rattle.load_list.proofs.listing.put_each.Goals as goal

pub push-requires : goal.push-requires
push-requires c =
    let i = c.loop-group.group-index in
    let fits = rw (one_group c.args.groups.now i (omega arith)) at (part-fits c.requires i c.loop-group.invariant.follows (i + 1 - i)) in
    (omega arith, λ p q. omega arith, fits)

pub loop-group-preserved : goal.loop-group-preserved
loop-group-preserved c =
    let i = c.loop-group.group-index in
    record {
      follows =
          part_follows c.requires i c.loop-group.invariant.follows (i + 1) (omega arith)
          (rw (one_group c.args.groups.now i (omega arith)) c.push.ensures.follows);
      same_reference = cc;
    }
