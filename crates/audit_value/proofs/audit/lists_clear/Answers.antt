-- `lists_clear` meets its contract: the two answers are those for both lists.
use Rattle.blocks.specs.Audit.{clear_lists}
use Rattle.blocks.proofs.WholeLists.{whole_parts, value_covers, update_covers}
use Rattle.audit_value.proofs.audit.Exits.{slice_asks, first_fails, second_decides}
use Rattle.blocks.proofs.Opened.{limits_of, groups_read}
use Rattle.audit_value.proofs.audit.lists_clear.Goals as goal

pub value_list-requires : goal.value_list-requires
value_list-requires c =
    (c.requires.0, (whole_parts c.args.sizes c.args.block.now c.requires.1).value_short)

pub clear_from-requires : goal.clear_from-requires
clear_from-requires c =
    let a = c.args in
    rw (groups_read c.sizes.view_is)
    (slice_asks a.sizes (limits_of c.sizes.view_is c.sizes.invariant) a.issued c.requires.2 _ _
    (value_covers a.sizes (limits_of c.sizes.view_is c.sizes.invariant) a.block.now c.requires.1) c.value_list.ensures)

pub returns-then-not-clear_from : goal.returns-then-not-clear_from
unfolding clear_lists
returns-then-not-clear_from c =
    let value-told = rw c.value_list.ensures at c.clear_from.ensures in
    first_fails _ _ c.clear_from.result value-told c.if-not-clear_from.true

pub update_list-requires : goal.update_list-requires
update_list-requires c =
    (c.requires.0, (whole_parts c.args.sizes c.args.block.now c.requires.1).update_short)

pub clear_from-requires-2 : goal.clear_from-requires-2
clear_from-requires-2 c =
    let a = c.args in
    rw (groups_read c.sizes.view_is)
    (slice_asks a.sizes (limits_of c.sizes.view_is c.sizes.invariant) a.issued c.requires.2 _ _
    (update_covers a.sizes (limits_of c.sizes.view_is c.sizes.invariant) a.block.now c.requires.1) c.update_list.ensures)

pub returns : goal.returns
unfolding clear_lists
returns c =
    let value-told = rw c.value_list.ensures at c.clear_from.ensures in
    second_decides _ _ c.clear_from.result value-told c.if-not-clear_from.false c.clear_from-2.result
    (rw c.update_list.ensures at c.clear_from-2.ensures)
