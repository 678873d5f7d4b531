-- `value_unused` meets its contract: the slice is what V leaves unused. Assumes nothing.
use mathlib.Core.Path.{refl, ap}
use Rattle.std.specs.Prelude.{◌+◌}
use Rattle.blocks.specs.Sizes.{value_room}
use Rattle.blocks.proofs.Parts.{value_unused_slice}
use Rattle.blocks.proofs.layout.value_unused.Goals as goal

pub returns : goal.returns
returns c = value_unused_slice c.args.sizes c.args.block.now _ _ refl (ap (λ n. 2 + value_room n) c.sizes.view_is)
