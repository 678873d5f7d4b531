-- `merge` leaves V xor U, made in an array of zeros, in V's room, and the all-zero list in U's.
use native.Mathlib.Omega.{arith}
use borrow.Author.Rules.{rules}
use Rattle.words.specs.Words.{encode}
use Rattle.blocks.specs.Block.{current}
use Rattle.block_change.specs.Change.{merged}
use Rattle.blocks.proofs.EmptyUpdates.{emptied-written}
use Rattle.blocks.proofs.WholeLists.{current-fits}
use Rattle.blocks.proofs.Opened.{limits_of}
use Rattle.block_change.proofs.change.merge.Goals as goal

pub put_value-requires : goal.put_value-requires
put_value-requires c =
    let fits = current-fits c.args.sizes (limits_of c.sizes.view_is c.sizes.invariant) c.args.block.now c.requires.1 in
    search rules

pub returns : goal.returns
unfolding merged
returns c =
    let a = c.args in
    let made = c.current_into-count in
    let put = c.put_value in
    let cleared = c.clear_update in
    emptied-written a.sizes (limits_of c.sizes.view_is c.sizes.invariant) (encode (current a.sizes a.block.now))
    (current-fits a.sizes (limits_of c.sizes.view_is c.sizes.invariant) a.block.now c.requires.1) a.block.now c.requires.0
    made.result 4096 made.new.out put.new.block cleared.new.block
    made.ensures.0 (omega arith) made.ensures.1 put.ensures cleared.ensures
