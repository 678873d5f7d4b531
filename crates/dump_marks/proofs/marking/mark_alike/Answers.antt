-- `mark_alike` meets its contract: zeros change nothing, ones mark every row, and another group stands alone. Assumes nothing.
use mathlib.Core.Path.{sym}
use Rattle.dump_marks.proofs.marking.Uniform.{zeros-free, zeros_keep}
use Rattle.dump_marks.proofs.marking.mark_alike.Goals as goal

pub returns-then-bits-eq0 : goal.returns-then-bits-eq0
returns-then-bits-eq0 c = rw c.if-bits-eq0.true (sym (zeros-free c.args.rows.now), λ yes. sym (zeros_keep c.args.rows.now c.args.value))

pub returns-then-bits-eq-ALL_ONES : goal.returns-then-bits-eq-ALL_ONES
returns-then-bits-eq-ALL_ONES c = rw c.if-bits-eq-ALL_ONES.true c.mark_all.ensures
