-- `update_length` meets its contract. Assumes nothing.
use native.Mathlib.Omega.{arith}
use Rattle.blocks.proofs.layout.update_length.Goals as goal

pub overflow_cast-result : goal.overflow_cast-result
overflow_cast-result c = omega (arith, c.type_inv.block 1)
