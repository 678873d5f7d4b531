-- `short_group`: after i turns the first i rows are gathered, the first of them the highest. Assumes nothing.
use native.Mathlib.Omega.{arith}
use lib.Pow.{pow_mono}
use Rattle.groups.proofs.Gather.{gather_more, gather_all}
use Rattle.groups.proofs.rows.short_group.Goals as goal

pub overflow_add-group : goal.overflow_add-group
overflow_add-group c = omega (arith, pow_mono {i = c.loop-row.row-index} {j = 30} (omega arith))

pub loop-row-preserved : goal.loop-row-preserved
loop-row-preserved c =
    let loop = c.loop-row in
    rw c.wide.ensures.0 (gather_more c.args.rows.now loop.group loop.row-index c.requires.0 c.requires.1 c.loop-row-test.true loop.invariant)

pub returns : goal.returns
returns c =
    let loop = c.loop-row in
    gather_all c.args.rows.now loop.group loop.row-index c.requires.1 c.loop-row-test.false loop.invariant
