-- `load_blocks` meets its contract: the blocks are packed from the groups that the pass over the column left. Assumes nothing.
use Rattle.std.proofs.Common.{◌∙◌}
use Rattle.load_column.proofs.Loading.{spread_packed}
use Rattle.blocks.proofs.Opened.{limits_of}
use Rattle.load_column.proofs.column.load_blocks.Goals as goal

pub returns : goal.returns
returns c =
    c.pack_blocks.ensures
    ∙ rw c.groups_for.ensures
    (spread_packed c.args.sizes (limits_of c.sizes.view_is c.sizes.invariant) c.args.column.now c.requires.2 c.args.values c.args.words.now c.spread.new.words
    (rw (limits_of c.sizes.view_is c.sizes.invariant).block_is at c.spread.ensures))
