-- `take_rows` meets its contract. The loop's invariant: the rows in front of place i are taken, and no row is shared where none is so far and
-- none is still to come.
use Prim.Native.Nat.{◌<◌, ◌≤◌}
use native.Mathlib.Omega.{arith}
use lib.ListN.{length}
use Rattle.lists.proofs.loose.Loops.{begins, unread, replaces, replaced, shares_begin, shares_more, shares_all, taken_length, taken_at}
use Rattle.lists.proofs.loose.take_rows.Goals as goal

pub loop-i-init : goal.loop-i-init
loop-i-init c =
    let taken = c.args.taken.now in
    let groups = c.args.groups.now in
    (begins taken _ (taken_length taken groups c.requires.2), shares_begin taken groups)

pub loop-i-preserved : goal.loop-i-preserved
loop-i-preserved c =
    let taken = c.args.taken.now in
    let groups = c.args.groups.now in
    let k = c.loop-i.invariant in
    let inside : c.loop-i.i < length taken = omega (arith, c.requires.2) in
    rw (unread k.0 inside) (
      replaces k.0 inside _ (taken_at taken groups c.requires.2 c.requires.0 c.requires.1 c.loop-i.i inside),
      shares_more taken groups c.requires.2 c.requires.0 c.requires.1 c.loop-i.i inside c.loop-i.twice k.1,
    )

pub returns : goal.returns
returns c =
    let all : length c.args.taken.now ≤ c.loop-i.i = omega (arith, c.requires.2) in
    (shares_all c.args.taken.now c.args.groups.now c.requires.2 c.loop-i.twice c.loop-i.i all c.loop-i.invariant.1, replaced c.loop-i.invariant.0 all)
