-- `list_current` writes where the list is sure to fit; elsewhere `list_aside` answers.
use native.Mathlib.Omega.{arith}
use Rattle.blocks.proofs.WholeLists.{current-fits}
use Rattle.block_change.proofs.current.Exits.{done}
use Rattle.blocks.proofs.Opened.{limits_of, groups_read}
use Rattle.block_change.proofs.current.list_current.Goals as goal

pub returns : goal.returns
returns c =
    let a = c.args in
    let fits = current-fits a.sizes (limits_of c.sizes.view_is c.sizes.invariant) a.block.now c.requires.1 in
    let into = c.current_into-length in
    done a.sizes a.block.now a.out.now (omega (arith, groups_read c.sizes.view_is, c.if-out-sizes.false))
    into.result into.new.out into.ensures.0 into.ensures.1
