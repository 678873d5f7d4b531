-- `update_unused` meets its contract: the slice is what U leaves unused. Assumes nothing.
use mathlib.Core.Path.{refl, ap}
use native.Mathlib.Omega.{arith}
use Rattle.blocks.specs.Sizes.{value_room}
use Rattle.blocks.proofs.Parts.{update_unused_slice}
use Rattle.blocks.proofs.layout.update_unused.Goals as goal

pub returns : goal.returns
returns c =
    let room = ap value_room c.sizes.view_is in
    let unused = ap (λ n. n.update_room) c.sizes.view_is in
    rw room (update_unused_slice c.args.sizes c.args.block.now _ _ refl (omega (arith, room, unused, c.sizes.invariant.update_room_is)))
