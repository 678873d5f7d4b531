-- `mark_few` meets its contract. The loop's invariant is `Marking`: the rows whose bit is no longer in `rest` are done. Assumes nothing.
use native.Mathlib.Omega.{arith}
use Rattle.dump_marks.proofs.marking.HighestBit.{top, shrinks, mask}
use Rattle.dump_marks.proofs.marking.Marking.{begin, ends, behind, taken, next_row}
use Rattle.dump_marks.proofs.marking.mark_few.Goals as goal

pub loop-rest-init : goal.loop-rest-init
loop-rest-init c = begin c.args.rows.now c.args.group c.args.value c.requires.0 c.requires.1

pub overflow_sub-ahead : goal.overflow_sub-ahead
overflow_sub-ahead c = omega (arith, top _ c.loop-rest-test.true c.loop-rest.invariant.small)

pub returns-then-rows-row : goal.returns-then-rows-row
returns-then-rows-row c = behind c.loop-rest.invariant _ (top _ c.loop-rest-test.true c.loop-rest.invariant.small) c.if-rows-row.true

pub returns-then-rows-row-2 : goal.returns-then-rows-row-2
returns-then-rows-row-2 c =
    taken c.loop-rest.invariant _ (top _ c.loop-rest-test.true c.loop-rest.invariant.small) c.if-rows-row.false c.if-rows-row-2.true

pub overflow_shr-rest : goal.overflow_shr-rest
overflow_shr-rest c = omega (arith, top _ c.loop-rest-test.true c.loop-rest.invariant.small)

pub overflow_sub-rest : goal.overflow_sub-rest
overflow_sub-rest c =
    let t = top c.loop-rest.rest c.loop-rest-test.true c.loop-rest.invariant.small in
    rw (mask _ _ t) t.under

pub loop-rest-smaller : goal.loop-rest-smaller
loop-rest-smaller c =
    let t = top c.loop-rest.rest c.loop-rest-test.true c.loop-rest.invariant.small in
    rw (mask _ _ t) (shrinks _ _ t)

pub loop-rest-preserved : goal.loop-rest-preserved
loop-rest-preserved c =
    let t = top c.loop-rest.rest c.loop-rest-test.true c.loop-rest.invariant.small in
    rw (mask _ _ t) (next_row c.loop-rest.invariant _ t c.if-rows-row.false c.if-rows-row-2.false)

pub returns : goal.returns
returns c = ends c.loop-rest.invariant c.loop-rest-test.false
