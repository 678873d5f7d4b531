-- `spread` meets its contract, by the computed test of its arithmetic. Assumes nothing.
use native.Mathlib.Omega.{arith}
use lib.Bits.{and_le_r}
use Rattle.groups.proofs.eights.Computed.{spreads}
use Rattle.groups.proofs.eights.spread.Goals as goal

pub overflow_mul-copies-2 : goal.overflow_mul-copies-2
overflow_mul-copies-2 c = omega (arith, and_le_r c.from-bits.result 1)

pub overflow_add-copies : goal.overflow_add-copies
overflow_add-copies c = omega (arith, and_le_r c.from-bits.result 1)

pub returns : goal.returns
returns c = rw c.from-bits.ensures (spreads c.args.eight (omega arith))
