-- `read_update` meets its contract: a length past the room is damage, and else the answer is the walk's over U. Assumes nothing.
use mathlib.Core.Path.{◌∙◌}
use native.Mathlib.Omega.{arith}
use Rattle.blocks.proofs.Opened.{update_room_read}
use Rattle.block_read.proofs.read.Exits.{update_long, update_walked}
use Rattle.block_read.proofs.read.read_update.Goals as goal

pub returns-then-room-update_length : goal.returns-then-room-update_length
returns-then-room-update_length c = update_long c.args.sizes c.args.block.now c.args.group (omega (arith, update_room_read c.sizes.view_is c.sizes.invariant))

pub returns : goal.returns
returns c =
    c.read_from.ensures
    ∙ update_walked c.args.sizes c.args.block.now c.args.group (omega (arith, update_room_read c.sizes.view_is c.sizes.invariant))
    _ c.update_list.ensures _ (update_room_read c.sizes.view_is c.sizes.invariant)
