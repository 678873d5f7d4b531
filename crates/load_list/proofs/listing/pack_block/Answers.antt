-- `pack_block` makes the list aside, puts it as V and clears U: the block of the list with empty updates. Assumes nothing.
use native.Mathlib.Omega.{arith}
use Rattle.groups.proofs.Groups.{get_or-zeros}
use Rattle.blocks.proofs.EmptyUpdates.{emptied-written}
use Rattle.blocks.proofs.SizeLaws.{few-groups, few_words}
use Rattle.load_list.specs.Inner.{packed_list, packed_block}
use Rattle.load_list.proofs.Columns.{few_filled, length-packed_list}
use Rattle.blocks.proofs.Opened.{limits_of, groups_read}
use Rattle.load_list.proofs.listing.pack_block.Goals as goal

pub list_into-count-requires : goal.list_into-count-requires
list_into-count-requires c =
    let few = few_filled c.args.sizes (limits_of c.sizes.view_is c.sizes.invariant) c.args.filled c.requires.1 c.args.block.now in
    let many = few-groups c.args.sizes (limits_of c.sizes.view_is c.sizes.invariant) in
    rw (groups_read c.sizes.view_is) (rw c.value_front.ensures few, many, many, λ i. get_or-zeros 4096 i)

pub put_value-requires : goal.put_value-requires
unfolding packed_list
put_value-requires c =
    let fits = length-packed_list c.args.sizes (limits_of c.sizes.view_is c.sizes.invariant) c.args.filled c.requires.1 c.args.block.now in
    let stands = rw (c.value_front.ensures, groups_read c.sizes.view_is) at c.list_into-count.ensures in
    (c.requires.0, omega (arith, fits, stands.0), omega (arith, few_words c.args.sizes (limits_of c.sizes.view_is c.sizes.invariant)))

pub returns : goal.returns
unfolding packed_block packed_list
returns c =
    let fits = length-packed_list c.args.sizes (limits_of c.sizes.view_is c.sizes.invariant) c.args.filled c.requires.1 c.args.block.now in
    let stands = rw (c.value_front.ensures, groups_read c.sizes.view_is) at c.list_into-count.ensures in
    emptied-written _ (limits_of c.sizes.view_is c.sizes.invariant) _ fits _ c.requires.0 _ 4096 _ _ _ stands.0 (few_words _ (limits_of c.sizes.view_is c.sizes.invariant)) stands.1 c.put_value.ensures
    c.clear_update.ensures
