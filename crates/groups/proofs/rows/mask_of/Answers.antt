-- `mask_of`: entry i of the masks is 2 ^ (30 - i). Assumes nothing.
use Rattle.groups.proofs.Table.{mask_at}
use Rattle.groups.proofs.rows.mask_of.Goals as goal

pub returns : goal.returns
returns c = mask_at c.args.i c.requires
