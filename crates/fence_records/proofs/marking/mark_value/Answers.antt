-- `mark_value`: each round marks the rows that the value's next fence serves; damage ends it.
use Rattle.blocks.proofs.Opened.{fences_counted}
use Rattle.fence_records.proofs.marking.Rounds.{count_asks, visits_fit, none_visited, fence_asks, fence_seen, fence_damaged, all_visited}
use Rattle.fence_records.proofs.marking.mark_value.Goals as goal

pub fences_for-count-requires : goal.fences_for-count-requires
fences_for-count-requires c = count_asks c.args.words.now c.args.fences.now c.requires.0

pub slice_bounds-fence-items-end : goal.slice_bounds-fence-items-end
slice_bounds-fence-items-end c =
    let a = c.args in
    let count = c.fences_for-count in
    visits_fit a.words.now a.fences.now c.requires.0 a.value c.requires.1 a.rows.now c.requires.2 count.result count.ensures (fences_counted c.sizes.view_is c.sizes.invariant)

pub loop-j-init : goal.loop-j-init
loop-j-init c =
    let a = c.args in
    none_visited a.words.now a.fences.now c.requires.0 a.value c.requires.1 a.rows.now c.requires.2

pub mark_fence-requires : goal.mark_fence-requires
mark_fence-requires c =
    let a = c.args in
    let count = c.fences_for-count in
    let asks = fence_asks a.words.now a.fences.now c.requires.0 a.value c.requires.1 a.rows.now c.requires.2
    count.result count.ensures (fences_counted c.sizes.view_is c.sizes.invariant) c.loop-j.j c.loop-j-test.true c.loop-j.rows c.loop-j.auto.rows in
    (asks.1, asks.2, asks.3, asks.4, asks.5)

pub returns-then-not-mark_fence : goal.returns-then-not-mark_fence
returns-then-not-mark_fence c =
    let a = c.args in
    let count = c.fences_for-count in
    fence_damaged a.words.now a.fences.now c.requires.0 a.value c.requires.1 a.rows.now c.requires.2
    count.result count.ensures (fences_counted c.sizes.view_is c.sizes.invariant) c.loop-j.j c.loop-j-test.true c.loop-j.rows c.loop-j.auto.rows c.loop-j.invariant
    c.mark_fence.result c.mark_fence.new.rows c.mark_fence.ensures c.if-not-mark_fence.true

pub loop-j-preserved : goal.loop-j-preserved
loop-j-preserved c =
    let a = c.args in
    let count = c.fences_for-count in
    fence_seen a.words.now a.fences.now c.requires.0 a.value c.requires.1 a.rows.now c.requires.2
    count.result count.ensures (fences_counted c.sizes.view_is c.sizes.invariant) c.loop-j.j c.loop-j-test.true c.loop-j.rows c.loop-j.auto.rows c.loop-j.invariant
    c.mark_fence.result c.mark_fence.new.rows c.mark_fence.ensures c.if-not-mark_fence.false

pub returns : goal.returns
returns c =
    let a = c.args in
    let count = c.fences_for-count in
    all_visited a.words.now a.fences.now c.requires.0 a.value c.requires.1 a.rows.now c.requires.2
    count.result count.ensures (fences_counted c.sizes.view_is c.sizes.invariant) c.loop-j.j c.loop-j.auto.j-end c.loop-j-test.false c.loop-j.rows c.loop-j.invariant
