-- `eight_bits` meets its contract: a mask of the 8 low bits is a remainder by 2 ^ 8. Assumes nothing.
use Prim.Native.Nat.{◌/◌, ◌^◌}
use native.Mathlib.Omega.{arith}
use lib.Bits.{and_mask, mask_lt}
use Rattle.groups.proofs.eights.eight_bits.Goals as goal

pub overflow_cast-result : goal.overflow_cast-result
overflow_cast-result c = omega (arith, mask_lt (c.args.number / 2 ^ c.args.below) 8)

pub returns : goal.returns
returns c = and_mask (c.args.number / 2 ^ c.args.below) 8
