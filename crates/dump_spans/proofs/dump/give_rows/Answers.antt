-- `give_rows` gives the first rows where the output has room for them. Assumes nothing.
use native.Mathlib.Omega.{arith}
use Rattle.dump_spans.proofs.dump.Giving.{no_room, given}
use Rattle.dump_spans.proofs.dump.give_rows.Goals as goal

pub returns-then-out-count : goal.returns-then-out-count
returns-then-out-count c = no_room c.args.issued c.args.rows.now c.args.out.now (omega arith)

pub returns : goal.returns
returns c = given c.args.issued c.args.rows.now c.args.out.now c.requires c.if-out-count.false c.copy_rows.new.to c.copy_rows.ensures
