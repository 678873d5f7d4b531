-- `number_in`: fewer than 8 digits are read so far, so one more fits.
use native.Mathlib.Omega.{arith}
use Rattle.digits.proofs.Digits.{number_small}
use Rattle.digits.proofs.reading.number_in.Goals as goal

pub overflow_mul-number : goal.overflow_mul-number
overflow_mul-number c = omega (arith, number_small c.loop-digit.number c.loop-digit.digit-index c.loop-digit.invariant.0 (omega arith))

pub overflow_add-number : goal.overflow_add-number
overflow_add-number c = omega (arith, number_small c.loop-digit.number c.loop-digit.digit-index c.loop-digit.invariant.0 (omega arith), c.digit_value.ensures.1)
