-- `holder_of` meets its contract: each exit is a test of the row. Assumes nothing.
use mathlib.Core.Path.{refl}
use borrow.Author.Tests.{eq-eqb, ne_eqb}
use Rattle.memory.specs.Inner.{holder_of}
use Rattle.memory.proofs.row.holder_of.Goals as goal

pub returns-then-row-ne0 : goal.returns-then-row-ne0
unfolding holder_of
returns-then-row-ne0 c = rw (ne_eqb c.args.row.holders 0 c.if-row-ne0.true) refl

pub returns : goal.returns
unfolding holder_of
returns c = rw (eq-eqb c.args.row.holders 0 c.if-row-ne0.false) refl
