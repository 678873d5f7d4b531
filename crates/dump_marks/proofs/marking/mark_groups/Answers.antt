-- `mark_groups` meets its contract: the rows of the groups are a part of all rows. Assumes nothing.
use native.Mathlib.Omega.{arith}
use Rattle.dump_marks.proofs.marking.Spans.{told_part}
use Rattle.dump_marks.proofs.marking.mark_groups.Goals as goal

pub returns-then-is_many : goal.returns-then-is_many
returns-then-is_many c =
    let many = c.is_many.ensures c.if-is_many.true in
    let one = c.requires.2 many.0 many.1 in
    told_part c.args.bits c.args.group c.args.end c.args.issued c.args.rows.now _ (omega arith) (omega arith) (omega arith) c.args.value
    c.mark_many.ensures

pub returns : goal.returns
returns c =
    told_part c.args.bits c.args.group c.args.end c.args.issued c.args.rows.now _ (omega arith) (omega arith) c.min-stop.ensures c.args.value
    c.mark_alike.ensures
