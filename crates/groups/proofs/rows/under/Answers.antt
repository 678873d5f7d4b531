-- `under`: under the mask 2 ^ k it answers the group's bit k. Assumes nothing.
use mathlib.Core.Path.{◌∙◌}
use Rattle.groups.proofs.Group.{row_under}
use Rattle.groups.proofs.rows.under.Goals as goal

pub returns : goal.returns
returns c k e = c.from.ensures ∙ rw e (row_under c.args.group k)
