-- `read_row`: each round asks the value's fence and reads from it on.
use Rattle.std.proofs.Common.{arith}
use Rattle.blocks.proofs.Opened.{fences_counted, spacing_read}
use Rattle.fence_records.proofs.reading.Rounds.{some_spacing, may_read, reads, all_read}
use Rattle.fence_records.proofs.reading.read_row.Goals as goal

pub fence_of-nearest-requires : goal.fence_of-nearest-requires
fence_of-nearest-requires c = rw (spacing_read c.sizes.view_is) (some_spacing c.args.words.now c.args.fences.now c.requires)

pub loop-value-init : goal.loop-value-init
loop-value-init c = c.no_row-found.ensures

pub row_step-found-requires : goal.row_step-found-requires
row_step-found-requires c =
    let asks = may_read c.args.words.now c.args.fences.now c.requires c.args.row c.loop-value.value (omega arith)
    c.loop-value.found c.loop-value.invariant c.row_mask-mask.result c.row_mask-mask.ensures in
    (asks.1, asks.2, asks.3, asks.4)

pub loop-value-preserved : goal.loop-value-preserved
loop-value-preserved c =
    reads c.args.words.now c.args.fences.now c.requires c.args.row c.loop-value.value (omega arith)
    c.loop-value.found c.loop-value.invariant c.fence_of-nearest.result (rw (spacing_read c.sizes.view_is) at c.fence_of-nearest.ensures)
    (fences_counted c.sizes.view_is c.sizes.invariant)
    c.fence_at-fence.result c.fence_at-fence.ensures c.row_step-found.result c.row_step-found.ensures

pub returns : goal.returns
returns c =
    all_read c.args.words.now c.args.fences.now c.requires c.args.row c.loop-value.value c.loop-value.found
    c.loop-value.invariant (omega arith)
