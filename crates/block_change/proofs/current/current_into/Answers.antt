-- `current_into` copies V where U is zeros, and else combines both lists of the block.
use mathlib.Core.Path.{refl}
use native.Mathlib.Omega.{arith}
use Rattle.words.proofs.Round.{Words}
use Rattle.blocks.proofs.WholeLists.{WholeParts, whole_parts}
use Rattle.block_change.proofs.current.Combines.{words-value, value_short, combines, combined-current, copied_current}
use Rattle.blocks.proofs.Opened.{limits_of, groups_read}
use Rattle.block_change.proofs.current.current_into.Goals as goal

pub value_list-value-requires : goal.value_list-value-requires
value_list-value-requires c =
    let parts : WholeParts c.args.sizes c.args.block.now = whole_parts c.args.sizes c.args.block.now c.requires.1 in
    (c.requires.0, parts.value_short)

pub update_list-update-requires : goal.update_list-update-requires
update_list-update-requires c =
    let parts : WholeParts c.args.sizes c.args.block.now = whole_parts c.args.sizes c.args.block.now c.requires.1 in
    (c.requires.0, parts.update_short)

-- ---- U is zeros
pub copy-requires : goal.copy-requires
copy-requires c =
    let a = c.args in
    omega (
      arith,
      value_short a.sizes a.block.now _ c.value_list-value.ensures (limits_of c.sizes.view_is c.sizes.invariant) c.requires.0 c.requires.1,
      c.requires.2,
    )

pub returns-then-is_zero_fill : goal.returns-then-is_zero_fill
returns-then-is_zero_fill c =
    let all_words : Words c.args.block.now = λ i. omega (arith, c.type_inv.block i) in
    let a = c.args in
    let value = c.value_list-value in
    let copy = c.copy in
    copied_current a.sizes a.block.now _ _ value.ensures c.update_list-update.ensures (limits_of c.sizes.view_is c.sizes.invariant) c.requires.1
    (rw value.ensures (words-value a.sizes a.block.now all_words)) (c.is_zero_fill.ensures c.if-is_zero_fill.true)
    _ a.out.now copy.new.out refl copy.ensures

-- ---- U is not
pub xor_into-requires : goal.xor_into-requires
xor_into-requires c =
    let a = c.args in
    rw (groups_read c.sizes.view_is)
    (combines a.sizes a.block.now _ _ c.value_list-value.ensures c.update_list-update.ensures
    (limits_of c.sizes.view_is c.sizes.invariant) c.requires.1 a.out.now c.requires.2)

pub returns : goal.returns
returns c =
    let a = c.args in
    let xor = c.xor_into in
    combined-current a.sizes a.block.now _ _ c.value_list-value.ensures c.update_list-update.ensures
    xor.result a.out.now xor.new.out xor.ensures
