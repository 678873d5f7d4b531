-- `put_line` refuses a line that is no frame.
use mathlib.Core.Path.{sym, ◌∙◌}
use native.Mathlib.Omega.{arith}
use Rattle.print.proofs.Stores.{length_refusal}
use Rattle.print.proofs.Lines.{bad_frame}
use Rattle.print.proofs.printing.put_line.Goals as goal

pub put_refusal-requires : goal.put_refusal-requires
put_refusal-requires c = omega (arith, length_refusal c.from.result, c.requires)

pub returns-then-not-is_frame : goal.returns-then-not-is_frame
returns-then-not-is_frame c =
    let frame = c.is_frame in
    let put = c.put_refusal in
    let number = c.from in
    let lines = bad_frame c.args.line.now (sym frame.ensures ∙ c.if-not-is_frame.true) in
    rw (← lines, ← number.ensures) (omega (arith, put.ensures.0), put.ensures.1)

pub put_frame-requires : goal.put_frame-requires
put_frame-requires c =
    let frame = c.is_frame in
    (sym frame.ensures ∙ c.if-not-is_frame.false, c.requires)
