-- `read_column` writes the column row by row: after some turns so many of its bytes stand in front.
use Rattle.print.proofs.Frames.{starts, reads, read}
use Rattle.print.proofs.frame.read_column.Goals as goal

pub loop-row-init : goal.loop-row-init
loop-row-init c = starts c.args.column.now (cc) (cc) (cc)

pub loop-row-preserved : goal.loop-row-preserved
loop-row-preserved c =
    let steps = c.in-Some.ensures.steps in
    reads c.loop-row.invariant c.requires _ _ steps.0.1 steps.0.0 steps.1 steps.2 c.byte_of.ensures

pub returns : goal.returns
returns c = read c.loop-row.invariant c.requires c.in-None.ensures.steps.0.1.0
