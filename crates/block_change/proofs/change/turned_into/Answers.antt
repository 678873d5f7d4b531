-- `turned_into` combines U and the list of the row.
use mathlib.Core.Path.{sym}
use Prim.Native.Nat.{◌≤◌}
use native.Mathlib.Omega.{arith}
use lib.ListN.{length}
use lib.Seq.{length-take-le}
use Rattle.blocks.proofs.WholeLists.{whole_parts}
use Rattle.block_change.proofs.change.Turns.{turns, combined-turned}
use Rattle.blocks.proofs.Opened.{limits_of, groups_read}
use Rattle.block_change.proofs.change.turned_into.Goals as goal

pub update_list-requires : goal.update_list-requires
update_list-requires c =
    (c.requires.0, (whole_parts c.args.sizes c.args.block.now c.requires.1).update_short)

pub slice_bounds-xor_into-end : goal.slice_bounds-xor_into-end
slice_bounds-xor_into-end c =
    let row_fits : c.one_row-one.result.count ≤ length c.one_row-one.result.words = omega (arith, c.one_row-one.ensures.few) in
    sym (length-take-le c.one_row-one.result.count c.one_row-one.result.words row_fits)

pub xor_into-requires : goal.xor_into-requires
xor_into-requires c =
    let one = c.one_row-one in
    rw (groups_read c.sizes.view_is)
    (turns c.args.sizes (limits_of c.sizes.view_is c.sizes.invariant) c.args.row c.requires.2 c.args.block.now c.requires.1
    _ c.update_list.ensures one.result (rw (groups_read c.sizes.view_is) at one.ensures) c.args.out.now c.requires.3)

pub returns : goal.returns
returns c =
    let one = c.one_row-one in
    let xor = c.xor_into in
    combined-turned c.args.sizes (limits_of c.sizes.view_is c.sizes.invariant) c.args.row c.requires.2 c.args.block.now c.requires.1
    _ c.update_list.ensures one.result (rw (groups_read c.sizes.view_is) at one.ensures)
    xor.result c.args.out.now xor.new.out xor.ensures
