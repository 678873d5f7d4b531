-- `mark_span` meets its contract: no group is nothing to do, a length or a place past its limit is damage, and else the lists are walked.
-- Assumes nothing.
use mathlib.Core.Path.{◌≡◌, ap}
use mathlib.Core.List.{List}
use Prim.Native.Nat.{ℕ, ◌<◌, ◌≤◌}
use native.Mathlib.Omega.{arith}
use lib.ListN.{length}
use Rattle.blocks.specs.Sizes.{value_room, block_size}
use Rattle.blocks.specs.Block.{value_length, value_list}
use Rattle.blocks.specs.declared.sizes.Sizes.{Sizes}
use Rattle.blocks.proofs.Blocks.{length-value_list}
use Rattle.blocks.proofs.Opened.{room_read, update_room_read}
use Rattle.dump_spans.proofs.span.InBlock.{none_told, long_told, misplaced_told, updates_told, lists_told}
use Rattle.dump_spans.proofs.span.mark_span.Goals as goal

-- the fence's word is in the list
within : (sizes : Sizes) (block list : List ℕ) (place : ℕ) → length block ≡ block_size sizes → list ≡ value_list sizes block
    → value_length block ≤ value_room sizes → place < value_length block → place < length list
within sizes block list place whole is short inside = omega (arith, ap length is, length-value_list sizes block whole short)

pub returns-then-span : goal.returns-then-span
returns-then-span c = none_told c.args.sizes c.args.fence c.args.block.now c.args.span c.args.rows.now c.if-span.true

pub returns-then-sizes-length : goal.returns-then-sizes-length
returns-then-sizes-length c =
    long_told c.args.sizes c.args.fence c.args.block.now c.args.span c.args.rows.now (omega (arith, room_read c.sizes.view_is, update_room_read c.sizes.view_is c.sizes.invariant)) c.requires.2 c.requires.3 (omega (arith, room_read c.sizes.view_is, update_room_read c.sizes.view_is c.sizes.invariant))

pub returns-then-length-place : goal.returns-then-length-place
returns-then-length-place c =
    misplaced_told c.args.sizes c.args.fence c.args.block.now c.args.span c.args.rows.now (omega (arith, room_read c.sizes.view_is, update_room_read c.sizes.view_is c.sizes.invariant)) c.requires.2 c.requires.3 (omega (arith, room_read c.sizes.view_is, update_room_read c.sizes.view_is c.sizes.invariant))
    (omega (arith, room_read c.sizes.view_is, update_room_read c.sizes.view_is c.sizes.invariant))

pub returns-then-sizes-update_length : goal.returns-then-sizes-update_length
returns-then-sizes-update_length c =
    updates_told c.args.sizes c.args.fence c.args.block.now c.args.span c.args.rows.now (omega (arith, room_read c.sizes.view_is, update_room_read c.sizes.view_is c.sizes.invariant)) c.requires.2 c.requires.3 (omega (arith, room_read c.sizes.view_is, update_room_read c.sizes.view_is c.sizes.invariant))

pub slice_bounds-mark_lists-count : goal.slice_bounds-mark_lists-count
slice_bounds-mark_lists-count c =
    omega (arith, within c.args.sizes c.args.block.now _ c.args.fence.place c.requires.0 c.value_list-list.ensures (omega (arith, room_read c.sizes.view_is, update_room_read c.sizes.view_is c.sizes.invariant)) (omega (arith, room_read c.sizes.view_is, update_room_read c.sizes.view_is c.sizes.invariant)))

pub slice_bounds-mark_lists-start : goal.slice_bounds-mark_lists-start
slice_bounds-mark_lists-start c =
    omega (arith, within c.args.sizes c.args.block.now _ c.args.fence.place c.requires.0 c.value_list-list.ensures (omega (arith, room_read c.sizes.view_is, update_room_read c.sizes.view_is c.sizes.invariant)) (omega (arith, room_read c.sizes.view_is, update_room_read c.sizes.view_is c.sizes.invariant)))

pub returns : goal.returns
returns c =
    lists_told c.args.sizes c.args.fence c.args.block.now c.args.span c.args.rows.now (omega (arith, room_read c.sizes.view_is, update_room_read c.sizes.view_is c.sizes.invariant)) (omega (arith, room_read c.sizes.view_is, update_room_read c.sizes.view_is c.sizes.invariant)) (omega (arith, room_read c.sizes.view_is, update_room_read c.sizes.view_is c.sizes.invariant)) _ _
    c.value_list-list.ensures c.update_list-update.ensures _ _ c.mark_lists.ensures
