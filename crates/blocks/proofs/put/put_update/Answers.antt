-- `put_update` stores the length and copies the room: together the block with another U.
use mathlib.Core.Path.{refl, ◌∙◌, sym}
use Prim.Native.Nat.{◌+◌}
use native.Mathlib.Omega.{arith}
use lib.ListN.{take}
use lib.Seq.{length-take-le}
use Rattle.blocks.specs.Sizes.{value_room}
use Rattle.blocks.proofs.Opened.{limits_of, room_read, update_read}
use Rattle.blocks.proofs.put.Stores.{copy_fits, stored, stored_long, update_writes}
use Rattle.blocks.proofs.put.put_update.Goals as goal

pub slice_bounds-copy-end : goal.slice_bounds-copy-end
slice_bounds-copy-end c = sym (length-take-le _ c.args.room.now (omega (arith, update_read c.sizes.view_is)))

pub copy-requires : goal.copy-requires
copy-requires c =
    let a = c.args in
    let is = c.sizes.view_is in
    rw (room_read is, update_read is) (copy_fits a.block.now 1 a.count (2 + value_room a.sizes) a.room.now a.sizes.update_room (omega arith) (omega arith))

pub shape_of-block : goal.shape_of-block
shape_of-block c =
    let a = c.args in
    let copy = c.copy in
    let is = c.sizes.view_is in
    rw (room_read is, update_read is)
    (stored_long a.block.now 1 a.count (2 + value_room a.sizes) a.room.now a.sizes.update_room (omega arith) (omega arith) (omega arith)
    copy.new.out (rw (room_read is, update_read is) at copy.ensures))

pub returns : goal.returns
returns c =
    let a = c.args in
    let copy = c.copy in
    let is = c.sizes.view_is in
    let limits = limits_of is c.sizes.invariant in
    rw (room_read is, update_read is)
    (stored a.block.now 1 a.count (2 + value_room a.sizes) a.room.now a.sizes.update_room (omega arith) (omega arith) (omega arith)
    copy.new.out (rw (room_read is, update_read is) at copy.ensures))
    ∙ update_writes a.sizes a.count (take a.sizes.update_room a.room.now) a.block.now c.requires.0
    (length-take-le a.sizes.update_room a.room.now (omega arith) ∙ limits.update_room_is)
    ∙ rw limits.update_room_is refl
