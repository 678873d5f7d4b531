-- `decimal_in`: a byte that is no digit, or one too many, ends the reading.
use mathlib.Core.Path.{◌∙◌}
use native.Mathlib.Omega.{arith}
use Rattle.fields.proofs.Spelling.{read_none}
use Rattle.fields.proofs.numbers.decimal_in.Goals as goal

pub returns-in_err-digit_of : goal.returns-in_err-digit_of
returns-in_err-digit_of c =
    c.from_residual.ensures
    ∙ read_none c.loop-byte.value c.args.digits.now c.loop-byte.byte-index (omega arith) c.loop-byte.invariant (grind arith)

pub returns-in_err-value : goal.returns-in_err-value
returns-in_err-value c =
    c.from_residual-in_err-value.ensures
    ∙ read_none c.loop-byte.value c.args.digits.now c.loop-byte.byte-index (omega arith) c.loop-byte.invariant (grind arith)
