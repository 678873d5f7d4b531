-- `pack_blocks` meets its contract: after so many turns the blocks of as many values are packed. Assumes nothing.
use Rattle.std.proofs.Common.{refl, mul-le-mul_right, arith}
use Rattle.blocks.specs.Sizes.{block_size}
use Rattle.load_column.proofs.Loading.{packs_none, packs_next}
use Rattle.blocks.proofs.Opened.{limits_of, block_read}
use Rattle.load_column.proofs.column.pack_blocks.Goals as goal

pub loop-value-init : goal.loop-value-init
loop-value-init c = packs_none c.args.sizes (limits_of c.sizes.view_is c.sizes.invariant) c.args.filled c.requires.1 c.args.words.now

pub loop-value-preserved : goal.loop-value-preserved
loop-value-preserved c =
    let loop = c.loop-value in
    let sizes = c.args.sizes in
    let lent = mul-le-mul_right (block_size sizes) loop.auto.value-end in
    packs_next sizes (limits_of c.sizes.view_is c.sizes.invariant) c.args.filled c.requires.1 c.args.words.now loop.value (omega (arith, lent))
    loop.words loop.invariant _ _ (rw (block_read c.sizes.view_is, (limits_of c.sizes.view_is c.sizes.invariant).block_is) refl) (omega (arith, block_read c.sizes.view_is, (limits_of c.sizes.view_is c.sizes.invariant).block_is)) _ c.pack_block.ensures
