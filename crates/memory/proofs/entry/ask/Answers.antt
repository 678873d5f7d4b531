-- `ask` meets its contract: a stop stays, and a check that applies stops what is ready. Assumes nothing.
use mathlib.Core.Path.{refl}
use Rattle.memory.proofs.entry.ask.Goals as goal

pub returns-then-applies : goal.returns-then-applies
returns-then-applies g c = rw (c.in_ok-passed.was, c.if-applies.true) refl

pub returns : goal.returns
returns g c = rw (c.in_ok-passed.was, c.if-applies.false) refl
