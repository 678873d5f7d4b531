-- `value_list` meets its contract: the slice is V. Assumes nothing.
use mathlib.Core.Path.{refl}
use Rattle.blocks.proofs.Parts.{value_slice}
use Rattle.blocks.proofs.layout.value_list.Goals as goal

pub returns : goal.returns
returns c = value_slice c.args.sizes c.args.block.now 2 _ refl refl c.requires.1
