-- `next_fence` meets its contract: the search goes on in V. Assumes nothing.
use mathlib.Core.Path.{◌∙◌, ap}
use mathlib.Core.List.{List}
use native.Mathlib.Omega.{arith}
use lib.ListN.{length}
use Rattle.block_read.specs.Fences.{locate_from}
use Rattle.blocks.proofs.Blocks.{length-value_list}
use Rattle.blocks.proofs.SizeLaws.{few_words}
use Rattle.blocks.proofs.Opened.{limits_of}
use Rattle.block_read.proofs.fence.next_fence.Goals as goal

pub locate_from-requires : goal.locate_from-requires
locate_from-requires c =
    let a = c.args in
    let long = ap length c.value_list.ensures ∙ length-value_list a.sizes a.block.now c.requires.0 c.requires.1 in
    let few = few_words a.sizes (limits_of c.sizes.view_is c.sizes.invariant) in
    (omega arith, omega arith, c.requires.3, c.requires.4)

pub returns : goal.returns
returns c =
    let a = c.args in
    c.locate_from.ensures ∙ ap (λ (list : List _). locate_from list a.fence a.group) c.value_list.ensures
