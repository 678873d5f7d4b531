-- `header_holds` meets its contract: the four limits, then n at most R. Assumes nothing.
use mathlib.Core.Path.{refl}
use Rattle.memory.specs.Memory.{within_limits}
use Rattle.memory.proofs.entry.Exits.{failed, held}
use Rattle.memory.proofs.entry.header_holds.Goals as goal

pub returns-then-not-limits_hold : goal.returns-then-not-limits_hold
unfolding within_limits
returns-then-not-limits_hold c = rw (failed c.limits_hold.ensures c.if-not-limits_hold.true) refl

pub returns : goal.returns
unfolding within_limits
returns c = rw (held c.limits_hold.ensures c.if-not-limits_hold.false) refl
