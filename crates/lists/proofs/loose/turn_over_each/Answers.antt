-- `turn_over_each` meets its contract. The loop's invariant: the groups in front of place i are turned over, the others are as they were.
use native.Mathlib.Omega.{arith}
use Rattle.lists.proofs.loose.Loops.{begins, unread, replaces, turned-length, turned_at}
use Rattle.lists.proofs.loose.turn_over_each.Goals as goal

pub loop-turned-init : goal.loop-turned-init
loop-turned-init c = begins c.args.groups.now _ (turned-length c.args.groups.now c.args.group)

pub loop-turned-preserved : goal.loop-turned-preserved
loop-turned-preserved c =
    let k = c.loop-turned.invariant in
    replaces k (omega arith) _
    (rw (unread k (omega arith)) (turned_at c.args.groups.now c.args.group c.requires.0 c.requires.1 c.loop-turned.turned-index (omega arith)))
