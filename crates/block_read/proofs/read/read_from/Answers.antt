-- `read_from` meets its contract: its answer is the reading of the walk's. Assumes nothing.
use mathlib.Core.Path.{refl}
use Rattle.block_read.proofs.read.read_from.Goals as goal

pub returns-in_err-covering : goal.returns-in_err-covering
returns-in_err-covering c = rw (c.from_residual.ensures, ← c.walk_to.ensures, c.in_err-covering.was) refl

pub returns : goal.returns
returns c = rw (← c.walk_to.ensures, c.in_ok-covering.was, c.group_in.ensures) refl
