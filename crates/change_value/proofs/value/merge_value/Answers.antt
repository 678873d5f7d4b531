-- `merge_value` merges the block of the value, which it lends.
use mathlib.Core.Path.{◌∙◌, ap}
use native.Mathlib.Omega.{arith}
use lib.ListN.{length}
use Rattle.block_change.specs.Change.{merged}
use Rattle.block_change.proofs.Merging.{length_merged}
use Rattle.memory.specs.Memory.{block_at}
use Rattle.memory.proofs.Places.{length-block_at, inside_words}
use Rattle.change_value.specs.Change.{whole, merged_words}
use Rattle.change_value.proofs.value.Lent.{lent-block, put_back}
use Rattle.blocks.proofs.Opened.{limits_of, block_read}
use Rattle.change_value.proofs.value.merge_value.Goals as goal

pub overflow_mul-at : goal.overflow_mul-at
overflow_mul-at c =
    rw (block_read c.sizes.view_is) (omega (arith, inside_words c.args.sizes (limits_of c.sizes.view_is c.sizes.invariant) (length c.args.words.now) c.args.value c.requires.0))

pub overflow_add-end : goal.overflow_add-end
overflow_add-end c =
    rw (block_read c.sizes.view_is) (omega (arith, inside_words c.args.sizes (limits_of c.sizes.view_is c.sizes.invariant) (length c.args.words.now) c.args.value c.requires.0))

pub offset_bounds-words-at : goal.offset_bounds-words-at
offset_bounds-words-at c =
    rw (block_read c.sizes.view_is) (omega (arith, inside_words c.args.sizes (limits_of c.sizes.view_is c.sizes.invariant) (length c.args.words.now) c.args.value c.requires.0))

pub slice_bounds-merge-end : goal.slice_bounds-merge-end
slice_bounds-merge-end c =
    rw (block_read c.sizes.view_is) (omega (arith, inside_words c.args.sizes (limits_of c.sizes.view_is c.sizes.invariant) (length c.args.words.now) c.args.value c.requires.0))

pub merge-requires : goal.merge-requires
unfolding whole
merge-requires c =
    let a = c.args in
    let same = lent-block a.sizes (limits_of c.sizes.view_is c.sizes.invariant) a.words.now a.value in
    rw (block_read c.sizes.view_is)
    (ap length same ∙ length-block_at a.sizes a.words.now a.value c.requires.0, rw same c.requires.1)

pub returns : goal.returns
unfolding merged_words whole
returns c =
    let a = c.args in
    let merge = c.merge in
    rw (block_read c.sizes.view_is)
    (put_back a.sizes (limits_of c.sizes.view_is c.sizes.invariant) a.words.now a.value (merged a.sizes)
    (length_merged a.sizes (limits_of c.sizes.view_is c.sizes.invariant) (block_at a.sizes a.words.now a.value) c.requires.1) merge.new.block (rw (block_read c.sizes.view_is) at merge.ensures))
