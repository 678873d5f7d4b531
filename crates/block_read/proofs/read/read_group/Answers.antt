-- `read_group` meets its contract: its answer joins the reading of V and the reading of U, which comes first. Assumes nothing.
use mathlib.Core.Path.{refl, sym, ◌∙◌}
use native.Mathlib.Omega.{arith}
use Rattle.block_read.specs.Read.{read_value, read_group}
use Rattle.block_read.proofs.Readings.{group_says}
use Rattle.block_read.proofs.read.Exits.{broken_update, group_joined}
use Rattle.block_read.proofs.read.read_group.Goals as goal

pub returns-in_err-update : goal.returns-in_err-update
unfolding read_group
returns-in_err-update c =
    let args = c.args in
    let value = read_value args.sizes args.fence args.group args.block.now in
    rw (c.from_residual.ensures, ← c.read_update.ensures, c.in_err-update.was) (broken_update value)

pub returns-in_err-value : goal.returns-in_err-value
unfolding read_group
returns-in_err-value c = rw (c.from_residual-in_err-value.ensures, ← c.read_value.ensures, c.in_err-value.was) refl

pub returns : goal.returns
returns c =
    let args = c.args in
    let update-asked = c.read_update.ensures in
    let update = c.in_ok-update.was in
    let value = sym c.read_value.ensures ∙ c.in_ok-value.was in
    group_joined args.sizes args.block.now args.fence args.group _ _ _ _ value (sym update-asked ∙ update)

pub overflow_add-result : goal.overflow_add-result
overflow_add-result c =
    let args = c.args in
    omega (arith, (group_says args.sizes args.block.now args.fence args.group _ _ (sym (returns c))).few)
