-- `check_lists` meets its contract, an exit at a time: the lengths, V's check, U's check, and U's ones.
use mathlib.Core.Path.{◌∙◌, sym}
use native.Mathlib.Omega.{arith}
use Rattle.blocks.proofs.Opened.{limits_of, rows_read, room_read, threshold_read}
use Rattle.blocks.proofs.whole.Exits.{value_exceeds, update_exceeds, value_bad, update_bad, ones_fit, ones_exceed, intact}
use Rattle.blocks.proofs.whole.check_lists.Goals as goal

pub returns-then-sizes-value_length : goal.returns-then-sizes-value_length
returns-then-sizes-value_length c = value_exceeds c.args.sizes c.args.block.now (omega (arith, room_read c.sizes.view_is))

pub returns-then-sizes-update_length : goal.returns-then-sizes-update_length
returns-then-sizes-update_length c = update_exceeds c.args.sizes c.args.block.now (omega (arith, c.sizes.invariant.update_room_is, threshold_read c.sizes.view_is))

pub returns-in_default : goal.returns-in_default
returns-in_default c =
    let a = c.args in
    value_bad a.sizes a.block.now _ c.value_list.ensures (rw (rows_read c.sizes.view_is) at (sym c.in_default.is ∙ c.check.ensures))

pub returns-in_default-check : goal.returns-in_default-check
returns-in_default-check c =
    let a = c.args in
    update_bad a.sizes a.block.now _ c.update_list-update.ensures (rw (rows_read c.sizes.view_is) at (sym c.in_default-check.is ∙ c.check-2.ensures))

pub ones_of-ones-requires : goal.ones_of-ones-requires
ones_of-ones-requires c =
    ones_fit c.args.sizes c.args.block.now _ c.update_list-update.ensures
    (rw (rows_read c.sizes.view_is) at (sym c.in-Ok-check.is ∙ c.check-2.ensures)) (limits_of c.sizes.view_is c.sizes.invariant)

pub returns-then-sizes-ones : goal.returns-then-sizes-ones
returns-then-sizes-ones c =
    let a = c.args in
    let ones = c.ones_of-ones in
    ones_exceed a.sizes a.block.now _ c.update_list-update.ensures
    (rw (rows_read c.sizes.view_is) at (sym c.in-Ok-check.is ∙ c.check-2.ensures)) ones.result ones.ensures (omega (arith, threshold_read c.sizes-2.view_is, c.if-sizes-ones.true))

pub returns : goal.returns
returns c =
    let a = c.args in
    let ones = c.ones_of-ones in
    intact a.sizes a.block.now _ c.update_list-update.ensures
    (rw (rows_read c.sizes.view_is) at (sym c.in-Ok-check.is ∙ c.check-2.ensures)) ones.result ones.ensures
    (omega (arith, room_read c.sizes.view_is, c.value_length.ensures, c.if-sizes-value_length.false))
    (omega (arith, c.sizes.invariant.update_room_is, threshold_read c.sizes.view_is, c.update_length.ensures, c.if-sizes-update_length.false)) _ c.value_list.ensures
    (rw (rows_read c.sizes.view_is) at (sym c.in-Ok.is ∙ c.check.ensures)) (omega (arith, threshold_read c.sizes-2.view_is, c.if-sizes-ones.false))
