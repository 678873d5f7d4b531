-- `put_value` stores the length and copies the room: together the block with another V.
use mathlib.Core.Path.{◌∙◌, sym}
use native.Mathlib.Omega.{arith}
use lib.ListN.{take}
use lib.Seq.{length-take-le}
use Rattle.blocks.specs.Sizes.{value_room}
use Rattle.blocks.proofs.Opened.{room_read}
use Rattle.blocks.proofs.put.Stores.{copy_fits, stored, stored_long, value_writes}
use Rattle.blocks.proofs.put.put_value.Goals as goal

pub slice_bounds-copy-end : goal.slice_bounds-copy-end
slice_bounds-copy-end c = sym (length-take-le _ c.args.room.now (omega (arith, room_read c.sizes.view_is)))

pub copy-requires : goal.copy-requires
copy-requires c =
    let a = c.args in
    rw (room_read c.sizes.view_is) (copy_fits a.block.now 0 a.count 2 a.room.now (value_room a.sizes) (omega arith) (omega arith))

pub shape_of-block : goal.shape_of-block
shape_of-block c =
    let a = c.args in
    let copy = c.copy in
    let room = room_read c.sizes.view_is in
    rw room (stored_long a.block.now 0 a.count 2 a.room.now (value_room a.sizes) (omega arith) (omega arith) (omega arith) copy.new.out (rw room at copy.ensures))

pub returns : goal.returns
returns c =
    let a = c.args in
    let copy = c.copy in
    let room = room_read c.sizes.view_is in
    rw room (stored a.block.now 0 a.count 2 a.room.now (value_room a.sizes) (omega arith) (omega arith) (omega arith) copy.new.out (rw room at copy.ensures))
    ∙ value_writes a.sizes a.count (take (value_room a.sizes) a.room.now) a.block.now c.requires.0
    (length-take-le (value_room a.sizes) a.room.now (omega arith))
