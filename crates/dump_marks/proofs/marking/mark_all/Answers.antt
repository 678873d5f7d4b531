-- `mark_all` meets its contract. The loop's invariant is `Passing`: the rows before `row` are told and marked. Assumes nothing.
use mathlib.Core.Path.{refl}
use native.Mathlib.Omega.{arith}
use Rattle.dump_marks.proofs.marking.Passing.{begin, ends, next_row}
use Rattle.dump_marks.proofs.marking.Uniform.{ones-set}
use Rattle.dump_marks.proofs.marking.mark_all.Goals as goal

pub loop-row-init : goal.loop-row-init
loop-row-init c = begin _ _ c.args.rows.now

pub loop-row-preserved : goal.loop-row-preserved
loop-row-preserved c =
    let ones = ones-set c.loop-row.row-index in
    next_row _ _ c.loop-row.invariant (omega arith) _ _ (omega arith)
    (rw (c.loop-row.invariant.left c.loop-row.row-index (omega arith), ones) refl) (rw ones refl)

pub returns : goal.returns
returns c = let all = ends _ _ c.loop-row.invariant (omega arith) in (all.0, λ yes. all.1)
