-- `flip_value` flips the row in the block of the value, which it lends.
use mathlib.Core.Path.{◌∙◌, ap}
use native.Mathlib.Omega.{arith}
use lib.ListN.{length}
use Rattle.block_change.specs.Change.{flipped}
use Rattle.block_change.proofs.Flipping.{length-flipped}
use Rattle.memory.specs.Memory.{block_at}
use Rattle.memory.proofs.Places.{length-block_at, inside_words}
use Rattle.change_value.specs.Change.{whole, merges_in, flipped_words}
use Rattle.change_value.proofs.value.Lent.{lent-block, put_back}
use Rattle.blocks.proofs.Opened.{limits_of, block_read}
use Rattle.change_value.proofs.value.flip_value.Goals as goal

pub overflow_mul-at : goal.overflow_mul-at
overflow_mul-at c =
    rw (block_read c.sizes.view_is) (omega (arith, inside_words c.args.sizes (limits_of c.sizes.view_is c.sizes.invariant) (length c.args.words.now) c.args.value c.requires.0))

pub overflow_add-end : goal.overflow_add-end
overflow_add-end c =
    rw (block_read c.sizes.view_is) (omega (arith, inside_words c.args.sizes (limits_of c.sizes.view_is c.sizes.invariant) (length c.args.words.now) c.args.value c.requires.0))

pub offset_bounds-words-at : goal.offset_bounds-words-at
offset_bounds-words-at c =
    rw (block_read c.sizes.view_is) (omega (arith, inside_words c.args.sizes (limits_of c.sizes.view_is c.sizes.invariant) (length c.args.words.now) c.args.value c.requires.0))

pub slice_bounds-flip_row-end : goal.slice_bounds-flip_row-end
slice_bounds-flip_row-end c =
    rw (block_read c.sizes.view_is) (omega (arith, inside_words c.args.sizes (limits_of c.sizes.view_is c.sizes.invariant) (length c.args.words.now) c.args.value c.requires.0))

pub flip_row-requires : goal.flip_row-requires
unfolding whole merges_in
flip_row-requires c =
    let a = c.args in
    let same = lent-block a.sizes (limits_of c.sizes.view_is c.sizes.invariant) a.words.now a.value in
    let long = length-block_at a.sizes a.words.now a.value c.requires.0 in
    rw (block_read c.sizes.view_is)
    (ap length same ∙ long, rw same c.requires.1, c.requires.2, rw same c.requires.3)

pub returns : goal.returns
unfolding flipped_words whole
returns c =
    let a = c.args in
    let block = block_at a.sizes a.words.now a.value in
    let long = length-block_at a.sizes a.words.now a.value c.requires.0 in
    let flip = c.flip_row in
    rw (block_read c.sizes.view_is)
    (put_back a.sizes (limits_of c.sizes.view_is c.sizes.invariant) a.words.now a.value (flipped a.sizes a.row)
    (length-flipped a.sizes (limits_of c.sizes.view_is c.sizes.invariant) a.row c.requires.2 block long c.requires.1) flip.new.block (rw (block_read c.sizes.view_is) at flip.ensures))
