-- `by_bit` meets its contract: a row's mask picks its bit. Assumes nothing.
use borrow.Author.Tests.{eq-eqb, ne_eqb}
use Rattle.dump_marks.proofs.marking.Whole.{picked}
use Rattle.dump_marks.proofs.marking.by_bit.Goals as goal

pub returns-then-group-row-eq0 : goal.returns-then-group-row-eq0
returns-then-group-row-eq0 c = rw (eq-eqb _ 0 c.if-group-row-eq0.true) at (picked c.args.group c.args.row c.args.clear c.args.set c.requires)

pub returns-else-group-row-eq0 : goal.returns-else-group-row-eq0
returns-else-group-row-eq0 c = rw (ne_eqb _ 0 c.if-group-row-eq0.false) at (picked c.args.group c.args.row c.args.clear c.args.set c.requires)
