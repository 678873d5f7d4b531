-- `is_damaged` meets its contract: each exit is a test of the row. Assumes nothing.
use mathlib.Core.Path.{refl}
use Rattle.memory.proofs.row.is_damaged.Goals as goal

pub returns-then-row : goal.returns-then-row
returns-then-row c = rw c.if-row.true refl

pub returns-else-row : goal.returns-else-row
returns-else-row c = rw c.if-row.false refl
