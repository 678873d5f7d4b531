-- `none_full` meets its contract: none is all ones where none was so far and none of those to come is. Assumes nothing.
use mathlib.Core.Path.{◌∙◌, sym}
use native.Mathlib.Omega.{arith}
use Rattle.load_list.proofs.listing.Sparse.{full-more, full_all}
use Rattle.load_list.proofs.listing.none_full.Goals as goal

pub loop-group-preserved : goal.loop-group-preserved
loop-group-preserved c =
    let loop = c.loop-group in
    loop.invariant ∙ full-more c.args.groups.now loop.full loop.group-index (omega arith)

pub returns : goal.returns
returns c =
    let loop = c.loop-group in
    sym (loop.invariant ∙ full_all c.args.groups.now loop.full loop.group-index (omega arith))
