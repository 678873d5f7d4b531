-- `block_of` meets its contract: the slice is the block. Assumes nothing.
use mathlib.Core.Path.{ap, ◌∙◌}
use Prim.Native.Nat.{ℕ, ◌*◌}
use native.Mathlib.Omega.{arith}
use lib.ListN.{length}
use Rattle.blocks.specs.Sizes.{block_size}
use Rattle.blocks.proofs.Parts.{part_slice}
use Rattle.memory.specs.Memory.{block_at}
use Rattle.memory.proofs.Places.{inside_words}
use Rattle.blocks.proofs.Opened.{limits_of, block_read}
use Rattle.memory.proofs.place.block_of.Goals as goal

pub overflow_mul-at : goal.overflow_mul-at
overflow_mul-at c =
    rw (block_read c.sizes.view_is) (omega (arith, inside_words c.args.sizes (limits_of c.sizes.view_is c.sizes.invariant) (length c.args.words.now) c.args.value c.requires))

pub overflow_add-end : goal.overflow_add-end
overflow_add-end c =
    rw (block_read c.sizes.view_is) (omega (arith, inside_words c.args.sizes (limits_of c.sizes.view_is c.sizes.invariant) (length c.args.words.now) c.args.value c.requires))

pub offset_bounds-words-at : goal.offset_bounds-words-at
offset_bounds-words-at c =
    rw (block_read c.sizes.view_is) (omega (arith, inside_words c.args.sizes (limits_of c.sizes.view_is c.sizes.invariant) (length c.args.words.now) c.args.value c.requires))

pub slice_bounds-result-end : goal.slice_bounds-result-end
slice_bounds-result-end c =
    rw (block_read c.sizes.view_is) (omega (arith, inside_words c.args.sizes (limits_of c.sizes.view_is c.sizes.invariant) (length c.args.words.now) c.args.value c.requires))

pub returns : goal.returns
unfolding block_at
returns c =
    let a = c.args in
    let long = block_read c.sizes.view_is ∙ (limits_of c.sizes.view_is c.sizes.invariant).block_is in
    part_slice a.words.now (a.value * block_size a.sizes) (block_size a.sizes) _ _ (ap (λ (size : ℕ). a.value * size) long) (omega arith)
