-- `whole_group`: three times eight rows and the last seven of eight are the group. Assumes nothing.
use Rattle.groups.proofs.Parts.{group_of_eights}
use Rattle.groups.proofs.rows.whole_group.Goals as goal

pub returns : goal.returns
returns c =
    rw (
      c.eight_rows.ensures.0,
      c.eight_rows-2.ensures.0,
      c.eight_rows-3.ensures.0,
      c.eight_rows-4.ensures.0,
    )
    (group_of_eights c.args.rows.now c.requires.0)
