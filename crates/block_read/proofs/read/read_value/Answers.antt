-- `read_value` meets its contract: a length past V's room or a place past the length is damage, and else the answer is the walk's over V from the place on.
-- Assumes nothing.
use mathlib.Core.Path.{◌≡◌, ◌∙◌, ap}
use native.Mathlib.Omega.{arith}
use lib.ListN.{length}
use Rattle.blocks.proofs.Blocks.{length-value_list}
use Rattle.blocks.proofs.Opened.{room_read, spacing_read}
use Rattle.block_read.proofs.read.Exits.{value_long, value_misplaced, value_walked}
use Rattle.block_read.proofs.read.read_value.Goals as goal

pub returns-then-sizes-length : goal.returns-then-sizes-length
returns-then-sizes-length c = value_long c.args.sizes c.args.block.now c.args.group c.args.fence (omega (arith, room_read c.sizes.view_is))

pub returns-then-length-place : goal.returns-then-length-place
returns-then-length-place c = value_misplaced c.args.sizes c.args.block.now c.args.group c.args.fence (omega (arith, room_read c.sizes.view_is)) (omega (arith, room_read c.sizes.view_is))

pub slice_bounds-read_from-count : goal.slice_bounds-read_from-count
slice_bounds-read_from-count c =
    let long : length c.value_list-list.result.now ≡ c.value_length-length.result =
    let value = c.value_length-length in
    ap length c.value_list-list.ensures ∙ length-value_list c.args.sizes c.args.block.now c.requires (omega (arith, room_read c.sizes.view_is)) ∙ omega arith in
    omega (arith, long)

pub slice_bounds-read_from-start : goal.slice_bounds-read_from-start
slice_bounds-read_from-start c =
    let long : length c.value_list-list.result.now ≡ c.value_length-length.result =
    let value = c.value_length-length in
    ap length c.value_list-list.ensures ∙ length-value_list c.args.sizes c.args.block.now c.requires (omega (arith, room_read c.sizes.view_is)) ∙ omega arith in
    omega (arith, long)

pub returns : goal.returns
returns c =
    c.read_from.ensures
    ∙ value_walked c.args.sizes c.args.block.now c.args.group c.args.fence (omega (arith, room_read c.sizes.view_is)) (omega (arith, room_read c.sizes.view_is)) _ c.value_list-list.ensures
    _ (spacing_read c.sizes-2.view_is)
