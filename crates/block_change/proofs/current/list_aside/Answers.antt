-- `list_aside` makes the list in an array that has room for any list, and gives it.
use mathlib.Core.Path.{◌∙◌, ap, sym}
use native.Mathlib.Omega.{arith}
use lib.ListN.{length, drop, replicate, length-take}
use Rattle.words.specs.Words.{encode}
use Rattle.blocks.specs.Block.{current}
use Rattle.groups.proofs.Sets.{front}
use Rattle.block_change.specs.Inner.{list_outcome}
use Rattle.block_change.proofs.current.list_aside.Goals as goal

pub slice_bounds-list-end : goal.slice_bounds-list-end
slice_bounds-list-end c =
    let into = c.current_into-length in
    let made = front into.new.out (encode (current c.args.sizes c.args.block.now)) (drop into.result (replicate 4096 0)) into.result
    into.ensures.0 into.ensures.1 in
    omega (arith, length-take into.result into.new.out, ap length made, into.ensures.0)

pub slice_bounds-give_list-end : goal.slice_bounds-give_list-end
slice_bounds-give_list-end c =
    let into = c.current_into-length in
    let made = front into.new.out (encode (current c.args.sizes c.args.block.now)) (drop into.result (replicate 4096 0)) into.result
    into.ensures.0 into.ensures.1 in
    c.current_into-length.ensures.0 ∙ sym (ap length made)

pub returns : goal.returns
unfolding list_outcome
returns c =
    let into = c.current_into-length in
    let made = front into.new.out (encode (current c.args.sizes c.args.block.now)) (drop into.result (replicate 4096 0)) into.result
    into.ensures.0 into.ensures.1 in
    rw made at c.give_list.ensures
