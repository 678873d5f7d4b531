-- `value_front` meets its contract: the slice is the front of V's room. Assumes nothing.
use mathlib.Core.Path.{refl}
use Rattle.blocks.proofs.Parts.{value-front_slice}
use Rattle.blocks.proofs.layout.value_front.Goals as goal

pub returns : goal.returns
returns c = value-front_slice c.args.sizes c.args.block.now c.args.count _ _ refl refl c.requires.1
