-- `is_frame` asks in the order of the definition.
use mathlib.Core.Path.{◌∙◌, sym}
use native.Mathlib.Omega.{arith}
use Rattle.print.proofs.Frames.{too_short, too_long, odd_line, digits_decide}
use Rattle.print.proofs.frame.is_frame.Goals as goal

pub returns-then-line-lt16 : goal.returns-then-line-lt16
returns-then-line-lt16 c = sym (too_short c.args.line.now (omega arith))

pub returns-then-line-gt8016 : goal.returns-then-line-gt8016
returns-then-line-gt8016 c = sym (too_long c.args.line.now (omega arith))

pub returns-then-line-ne0 : goal.returns-then-line-ne0
returns-then-line-ne0 c = sym (odd_line c.args.line.now (omega arith) (omega arith) c.if-line-ne0.true)

pub returns : goal.returns
returns c =
    c.all_digits.ensures ∙ sym (digits_decide c.args.line.now (omega arith) (omega arith) c.if-line-ne0.false)
