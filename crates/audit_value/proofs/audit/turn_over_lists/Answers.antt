-- `turn_over_lists` meets its contract: V is turned over before U.
use Rattle.blocks.proofs.SizeLaws.{few-groups}
use Rattle.blocks.proofs.WholeLists.{whole_parts}
use Rattle.audit_value.proofs.audit.Turned.{value_asks, update_asks, both_turned}
use Rattle.blocks.proofs.Opened.{limits_of}
use Rattle.audit_value.proofs.audit.turn_over_lists.Goals as goal

pub value_list-requires : goal.value_list-requires
value_list-requires c =
    (c.requires.0, (whole_parts c.args.sizes c.args.block.now c.requires.1).value_short)

pub turn_over_groups-requires : goal.turn_over_groups-requires
turn_over_groups-requires c =
    value_asks c.args.sizes (limits_of c.sizes.view_is c.sizes.invariant) c.args.block.now c.requires.1 4096 (few-groups c.args.sizes (limits_of c.sizes.view_is c.sizes.invariant))
    _ c.args.groups.now c.value_list.ensures c.requires.2

pub update_list-requires : goal.update_list-requires
update_list-requires c =
    (c.requires.0, (whole_parts c.args.sizes c.args.block.now c.requires.1).update_short)

pub turn_over_groups-requires-2 : goal.turn_over_groups-requires-2
turn_over_groups-requires-2 c =
    let once = c.turn_over_groups in
    update_asks c.args.sizes (limits_of c.sizes.view_is c.sizes.invariant) c.args.block.now c.requires.1 4096 (few-groups c.args.sizes (limits_of c.sizes.view_is c.sizes.invariant))
    _ c.args.groups.now c.value_list.ensures c.requires.2
    once.new.groups once.ensures _ c.update_list.ensures

pub returns : goal.returns
returns c =
    let twice = c.turn_over_groups-2 in
    let update = c.update_list in
    let once = c.turn_over_groups in
    let value = c.value_list in
    both_turned c.args.sizes (limits_of c.sizes.view_is c.sizes.invariant) c.args.block.now c.requires.1 4096 (few-groups c.args.sizes (limits_of c.sizes.view_is c.sizes.invariant))
    _ c.args.groups.now value.ensures c.requires.2 once.new.groups once.ensures _ update.ensures
    twice.new.groups twice.ensures
