-- `unused_zero` meets its contract: the two answers are those for both rooms.
use mathlib.Core.Path.{◌∙◌, ap}
use Rattle.groups.specs.Rows.{all_zero}
use Rattle.blocks.specs.Audit.{unused_zero}
use Rattle.blocks.proofs.WholeLists.{whole_parts}
use Rattle.audit_value.proofs.audit.Exits.{first_fails, second_decides}
use Rattle.audit_value.proofs.audit.unused_zero.Goals as goal

pub value_unused-value-requires : goal.value_unused-value-requires
value_unused-value-requires c =
    (c.requires.0, (whole_parts c.args.sizes c.args.block.now c.requires.1).value_short)

pub update_unused-update-requires : goal.update_unused-update-requires
update_unused-update-requires c =
    (c.requires.0, (whole_parts c.args.sizes c.args.block.now c.requires.1).update_short)

pub returns-then-not-all_zero : goal.returns-then-not-all_zero
unfolding unused_zero
returns-then-not-all_zero c =
    let value = c.all_zero in
    first_fails _ _ value.result (value.ensures ∙ ap all_zero c.value_unused-value.ensures)
    c.if-not-all_zero.true

pub returns : goal.returns
unfolding unused_zero
returns c =
    let value = c.all_zero in
    second_decides _ _ value.result (value.ensures ∙ ap all_zero c.value_unused-value.ensures)
    c.if-not-all_zero.false c.all_zero-2.result
    (c.all_zero-2.ensures ∙ ap all_zero c.update_unused-update.ensures)
