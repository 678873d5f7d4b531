-- `take_value` meets its contract: from zeros the two lists make V xor U, of which the rows are taken.
use mathlib.Core.Path.{refl, ◌∙◌, ap, sym}
use mathlib.Core.List.{List, ◌++◌}
use Prim.Native.Nat.{ℕ}
use lib.ListN.{length, take, drop}
use lib.Seq.{length-take-le}
use Rattle.groups.proofs.Groups.{groups-take}
use Rattle.blocks.proofs.WholeLists.{length-current, current-lt}
use Rattle.audit_value.proofs.audit.Turned.{front-turned}
use Rattle.blocks.proofs.Opened.{limits_of, groups_read}
use Rattle.audit_value.proofs.audit.take_value.Goals as goal

pub turn_over_lists-requires : goal.turn_over_lists-requires
turn_over_lists-requires c =
    (c.requires.0, c.requires.1, refl)

pub slice_bounds-take_rows-end-2 : goal.slice_bounds-take_rows-end-2
slice_bounds-take_rows-end-2 c =
    rw (groups_read c.sizes.view_is) (sym (length-take-le c.args.sizes.groups c.args.taken.now c.requires.3))

pub slice_bounds-take_rows-end-3 : goal.slice_bounds-take_rows-end-3
slice_bounds-take_rows-end-3 c =
    let made = ap (take c.args.sizes.groups) c.turn_over_lists.ensures ∙ front-turned c.args.sizes (limits_of c.sizes.view_is c.sizes.invariant) c.args.block.now c.requires.1 4096 in
    let made-long = ap length made ∙ length-current c.args.sizes (limits_of c.sizes.view_is c.sizes.invariant) c.args.block.now c.requires.1 in
    rw (groups_read c.sizes.view_is) (sym made-long)

pub take_rows-requires : goal.take_rows-requires
take_rows-requires c =
    let made = ap (take c.args.sizes.groups) c.turn_over_lists.ensures ∙ front-turned c.args.sizes (limits_of c.sizes.view_is c.sizes.invariant) c.args.block.now c.requires.1 4096 in
    let made-long = ap length made ∙ length-current c.args.sizes (limits_of c.sizes.view_is c.sizes.invariant) c.args.block.now c.requires.1 in
    rw (groups_read c.sizes.view_is) (
      groups-take c.args.sizes.groups c.args.taken.now c.requires.2,
      rw made (current-lt c.args.sizes (limits_of c.sizes.view_is c.sizes.invariant) c.args.block.now c.requires.1),
      length-take-le c.args.sizes.groups c.args.taken.now c.requires.3 ∙ sym made-long,
    )

pub returns : goal.returns
returns c =
    let made = ap (take c.args.sizes.groups) c.turn_over_lists.ensures ∙ front-turned c.args.sizes (limits_of c.sizes.view_is c.sizes.invariant) c.args.block.now c.requires.1 4096 in
    let rows = rw (groups_read c.sizes.view_is, made) at c.take_rows.ensures in
    rw (groups_read c.sizes.view_is) (rows.0, ap (λ (front : List ℕ). front ++ drop c.args.sizes.groups c.args.taken.now) rows.1)
