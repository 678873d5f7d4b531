-- `update_list` meets its contract: the slice is U. Assumes nothing.
use mathlib.Core.Path.{refl, ap}
use Rattle.blocks.specs.Sizes.{value_room}
use Rattle.blocks.proofs.Parts.{update_slice}
use Rattle.blocks.proofs.layout.update_list.Goals as goal

pub returns : goal.returns
returns c = rw (ap value_room c.sizes.view_is) (update_slice c.args.sizes c.args.block.now _ _ refl refl c.requires.1)
