-- `put_short`: after i turns the first i bits of the group stand in front of what `out` had. Assumes nothing.
use mathlib.Core.Path.{◌∙◌}
use Prim.Native.Nat.{◌-◌}
use native.Mathlib.Omega.{arith}
use lib.ListN.{length-set}
use Rattle.groups.proofs.Table.{mask_at}
use Rattle.groups.proofs.Group.{put_bit}
use Rattle.groups.proofs.rows.put_short.Goals as goal

pub loop-i-preserved : goal.loop-i-preserved
loop-i-preserved c =
    let loop = c.loop-i in
    let args = c.args in
    let row = c.under.ensures (30 - loop.i) (mask_at loop.i (omega arith)) in (
      length-set loop.out loop.i c.under.result ∙ loop.invariant.0,
      rw (loop.invariant.1, row) (put_bit args.out.now args.group loop.i (omega arith) (omega arith)),
    )
