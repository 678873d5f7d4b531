-- `is_between` meets its contract: each of its two exits is a test. Assumes nothing.
use mathlib.Core.Path.{refl}
use borrow.Author.Tests.{lt-leb, le-leb}
use Rattle.memory.proofs.entry.is_between.Goals as goal

pub returns-then-low-number : goal.returns-then-low-number
returns-then-low-number c = rw (le-leb c.args.low c.args.number c.if-low-number.true) refl

pub returns-else-low-number : goal.returns-else-low-number
returns-else-low-number c = rw (lt-leb c.args.low c.args.number c.if-low-number.false) refl
