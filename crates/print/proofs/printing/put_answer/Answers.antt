-- `put_answer`: the line of the value, or that of a refusal.
use mathlib.Core.Path.{sym, ap}
use native.Mathlib.Omega.{arith}
use lib.Seq.{length-take-le}
use Rattle.answers.specs.Numbers.{paper}
use Rattle.print.proofs.Lines.{done_line, refused_line}
use Rattle.print.proofs.printing.put_answer.Goals as goal

pub slice_bounds-put_value-end : goal.slice_bounds-put_value-end
slice_bounds-put_value-end c =
    let count = ap (λ answer. (paper answer).count) c.in-Ok.is in
    sym (length-take-le c.in-Ok.count c.args.list.now (omega (arith, count, c.requires.0)))

pub put_value-requires : goal.put_value-requires
put_value-requires c = rw (done_line c.args.value c.args.answer c.args.list.now c.in-Ok.count c.in-Ok.is) at c.requires.1

pub returns-in-Ok : goal.returns-in-Ok
returns-in-Ok c = rw (done_line c.args.value c.args.answer c.args.list.now c.in-Ok.count c.in-Ok.is) c.put_value.ensures

pub put_refusal-requires : goal.put_refusal-requires
put_refusal-requires c =
    rw (refused_line c.args.value c.args.answer c.args.list.now c.in-Err.refusal c.in-Err.is, ← c.from.ensures) at c.requires.1

pub returns-in-Err : goal.returns-in-Err
returns-in-Err c =
    rw (refused_line c.args.value c.args.answer c.args.list.now c.in-Err.refusal c.in-Err.is, ← c.from.ensures) c.put_refusal.ensures
