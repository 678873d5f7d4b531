-- `one_byte` meets its contract: the length first, then two windows of rows. Assumes nothing.
use Rattle.std.proofs.Common.{refl, ◌∙◌}
use Rattle.load_column.proofs.spread.Alike.{windows_alike}
use Rattle.load_column.proofs.spread.one_byte.Goals as goal

pub returns-then-all_alike : goal.returns-then-all_alike
returns-then-all_alike c = windows_alike c.args.rows.now c.if-rows-ne31.false c.if-all_alike.ensures c.all_alike-then-all_alike.ensures

pub returns-else-all_alike : goal.returns-else-all_alike
returns-else-all_alike c = c.if-all_alike.false ∙ windows_alike c.args.rows.now c.if-rows-ne31.false c.if-all_alike.ensures refl
