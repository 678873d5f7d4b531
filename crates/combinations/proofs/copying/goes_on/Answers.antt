-- `goes_on` compares the group with that of the run, if one is pending.
use mathlib.Core.Path.{refl}
use borrow.Author.Tests.{ne_eqb}
use Rattle.combinations.specs.Inner.{goes_on}
use Rattle.combinations.proofs.copying.goes_on.Goals as goal

pub returns-then-pending-eq0 : goal.returns-then-pending-eq0
unfolding goes_on
returns-then-pending-eq0 c = rw c.if-pending-eq0.true refl

pub returns : goal.returns
unfolding goes_on
returns c = rw (ne_eqb c.args.pending.count 0 c.if-pending-eq0.false) refl
