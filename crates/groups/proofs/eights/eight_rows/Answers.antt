-- `eight_rows` meets its contract, by the computed test of its arithmetic. Assumes nothing.
use mathlib.Core.Path.{◌∙◌}
use Rattle.groups.proofs.eights.Computed.{gathers}
use Rattle.groups.proofs.eights.eight_rows.Goals as goal

pub returns : goal.returns
returns c = (
  c.wide.ensures.0 ∙ c.eight_bits.ensures
      ∙ rw (c.from-first.ensures, c.from-last.ensures, c.four_bytes.ensures, c.four_bytes-2.ensures)
      (gathers c.args.rows.now c.args.at c.requires.0 c.requires.1),
  c.wide.ensures.1,
)
