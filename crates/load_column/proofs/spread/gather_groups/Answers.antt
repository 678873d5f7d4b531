-- `gather_groups` meets its contract: after i turns the first i rows are gathered. Assumes nothing.
use Rattle.std.proofs.Common.{refl, ◌∙◌, take_all}
use Rattle.load_column.proofs.spread.Gathering.{gather_none, row_fits, gather_more}
use Rattle.load_column.proofs.spread.gather_groups.Goals as goal

pub loop-row-init : goal.loop-row-init
loop-row-init c = gather_none c.args.rows.now c.args.groups.now c.requires.1

pub add_row-requires : goal.add_row-requires
add_row-requires c = row_fits c.loop-row.invariant c.requires.0 c.loop-row-test.true

pub loop-row-preserved : goal.loop-row-preserved
loop-row-preserved c = rw c.add_row.ensures (gather_more c.loop-row.invariant c.requires.0 c.loop-row-test.true)

pub returns : goal.returns
returns c = λ value below. c.loop-row.invariant.each value below ∙ rw (take_all c.loop-row.row-index c.args.rows.now c.loop-row-test.false) refl
