-- `mark_whole` meets its contract. The loop's invariant is `Passing`: the rows before `row` are told and marked. Assumes nothing.
use native.Mathlib.Omega.{arith}
use Rattle.dump_marks.specs.Inner.{groups_hold, groups_marked}
use Rattle.dump_marks.proofs.marking.Passing.{begin, ends}
use Rattle.dump_marks.proofs.marking.Whole.{next-many}
use Rattle.dump_marks.proofs.marking.mark_whole.Goals as goal

pub loop-row-init : goal.loop-row-init
loop-row-init c = begin _ _ c.args.rows.now

pub loop-row-preserved : goal.loop-row-preserved
loop-row-preserved c = next-many _ _ c.loop-row.invariant (omega arith) (omega arith) _ _ c.by_bit-free.ensures c.by_bit.ensures

pub returns : goal.returns
unfolding groups_hold groups_marked
returns c = let all = ends _ _ c.loop-row.invariant (omega arith) in (all.0, λ held. all.1)
