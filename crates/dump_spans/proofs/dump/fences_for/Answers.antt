-- `fences_for` meets its contract: the groups of the rows / G rounded up are few. Assumes nothing.
use mathlib.Core.Path.{refl}
use Rattle.blocks.specs.Sizes.{fences_for}
use Rattle.dump_spans.proofs.dump.Visits.{few_visits}
use Rattle.dump_spans.proofs.dump.fences_for.Goals as goal

pub returns : goal.returns
unfolding fences_for
returns c =
    rw (c.fences_for.ensures, c.groups_for.ensures)
    (refl, few_visits c.args.issued c.args.spacing c.requires.1 c.requires.0)
