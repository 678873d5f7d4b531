-- `flip_for` meets its contract: nothing where the whole check finds a fault, else a turn, after a merge where one is due. Assumes nothing.
use mathlib.Core.Path.{refl, ◌∙◌, sym}
use Rattle.blocks.proofs.whole.Verdict.{faulty_whole, intact-whole, intact-ones}
use Rattle.block_change.specs.Inner.{flip_for}
use Rattle.block_change.proofs.change.flip_for.Goals as goal

pub returns-in_err-ones : goal.returns-in_err-ones
unfolding flip_for
returns-in_err-ones c =
    let a = c.args in
    rw (c.from_residual.ensures, faulty_whole a.sizes a.block.now (sym c.in_err-ones.was ∙ c.check_lists.ensures)) refl

pub merge_due-requires : goal.merge_due-requires
merge_due-requires c =
    let a = c.args in
    let finds = sym c.in_ok-ones.was ∙ c.check_lists.ensures in
    (c.requires.0, intact-whole a.sizes a.block.now _ finds, c.requires.1, intact-ones a.sizes a.block.now _ finds)

pub returns : goal.returns
unfolding flip_for
returns c =
    let a = c.args in
    let finds = sym c.in_ok-ones.was ∙ c.check_lists.ensures in
    rw (intact-whole a.sizes a.block.now _ finds, c.merge_due.ensures) refl
