-- `enter_whole` meets its contract: DAMAGED behind the checks of a value, whose block lies inside the words once they pass. Assumes nothing.
use mathlib.Core.Path.{◌∙◌, ap, sym}
use lib.ListN.{length}
use Rattle.std.proofs.lemmas.Result.{err_from_is_err_and}
use Rattle.memory.proofs.Places.{length-block_at}
use Rattle.change_value.proofs.value.Exits.{stopped, inside, faulty, intact}
use Rattle.change_value.proofs.value.enter_whole.Goals as goal

pub returns-in_err-sizes : goal.returns-in_err-sizes
returns-in_err-sizes c =
    let a = c.args in
    let call = c.enter_value in
    let p = err_from_is_err_and c.from_residual.result c.from_residual.ensures.1 in
    rw (p.1, p.2) (sym c.in_err-sizes.was ∙ stopped a.words.now a.fences a.header a.value call.result call.ensures _ c.in_err-sizes.was)

pub block_of-requires : goal.block_of-requires
block_of-requires c =
    let a = c.args in
    let call = c.enter_value in
    let block = inside a.words.now a.fences a.header a.value call.result call.ensures _ c.in_ok-sizes.was in
    block.inside

pub check_lists-requires : goal.check_lists-requires
check_lists-requires c =
    let a = c.args in
    let call = c.enter_value in
    let block = inside a.words.now a.fences a.header a.value call.result call.ensures _ c.in_ok-sizes.was in
    ap length c.block_of.ensures ∙ length-block_at _ a.words.now a.value block.inside

pub returns-in_default : goal.returns-in_default
returns-in_default c =
    let a = c.args in
    let call = c.enter_value in
    faulty a.words.now a.fences a.header a.value call.result call.ensures _ c.in_ok-sizes.was
    (sym c.in_default.is ∙ rw c.block_of.ensures at c.check_lists.ensures)

pub returns : goal.returns
returns c =
    let a = c.args in
    let call = c.enter_value in
    intact a.words.now a.fences a.header a.value call.result call.ensures _ c.in_ok-sizes.was
    _ (sym c.in-Some.is ∙ rw c.block_of.ensures at c.check_lists.ensures)
