-- `merge_due` finds whether a merge is due: by U's ones, then by the row's bit in U, whose group is always read since U is whole.
use native.Mathlib.Omega.{arith}
use Rattle.block_change.proofs.change.Due.{none_due, never_broken, bit_decides}
use Rattle.blocks.proofs.Opened.{limits_of, threshold_read}
use Rattle.block_change.proofs.change.merge_due.Goals as goal

pub returns-then-ones-sizes : goal.returns-then-ones-sizes
returns-then-ones-sizes c =
    none_due c.args.sizes c.args.row c.args.block.now (omega (arith, threshold_read c.sizes.view_is, c.requires.3))

pub returns-in_default : goal.returns-in_default
returns-in_default c =
    let read = c.read_update in
    absurd
    (never_broken c.args.sizes c.args.row c.args.block.now (limits_of c.sizes.view_is c.sizes.invariant) c.requires.1 c.requires.2 read.result read.ensures
    c.in_default.is)

pub returns : goal.returns
returns c =
    let read = c.read_update in
    bit_decides c.args.sizes c.args.row c.args.block.now (limits_of c.sizes.view_is c.sizes.invariant) c.requires.1 c.requires.2 read.result read.ensures
    _ _ c.row_of.result c.in-Some.is (omega (arith, threshold_read c.sizes.view_is, c.requires.3)) c.row_of.ensures
