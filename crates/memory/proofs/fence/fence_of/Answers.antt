-- `fence_of` meets its contract: a quotient is no larger than what is divided. Assumes nothing.
use Prim.Native.Nat.{◌/◌}
use native.Mathlib.Nat.{div-le_self}
use native.Mathlib.Omega.{arith}
use Rattle.memory.proofs.fence.fence_of.Goals as goal

pub overflow_cast-result : goal.overflow_cast-result
overflow_cast-result c = let a = c.args in omega (arith, div-le_self (a.row / 31) a.spacing)
