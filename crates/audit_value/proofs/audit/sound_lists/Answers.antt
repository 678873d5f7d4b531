-- `sound_lists` meets its contract, an exit at a time: the whole check, bits at row n or above, unused words.
use mathlib.Core.Path.{◌∙◌, sym}
use native.Mathlib.Omega.{arith}
use Rattle.audit_value.proofs.audit.Exits.{not-whole, not_clear, unused_decides}
use Rattle.blocks.proofs.whole.Verdict.{intact-whole}
use Rattle.audit_value.proofs.audit.sound_lists.Goals as goal

pub returns-in_default : goal.returns-in_default
returns-in_default c =
    not-whole c.args.sizes c.args.issued c.args.block.now (sym c.in_default.is ∙ c.check_lists.ensures)

pub lists_clear-requires : goal.lists_clear-requires
lists_clear-requires c =
    (c.requires.0, intact-whole c.args.sizes c.args.block.now c.in-Some.field-0 (sym c.in-Some.is ∙ c.check_lists.ensures), omega arith)

pub returns-then-not-lists_clear : goal.returns-then-not-lists_clear
returns-then-not-lists_clear c =
    let clear = c.lists_clear in
    not_clear c.args.sizes c.args.issued c.args.block.now c.in-Some.field-0 (sym c.in-Some.is ∙ c.check_lists.ensures)
    clear.result clear.ensures c.if-not-lists_clear.true

pub unused_zero-requires : goal.unused_zero-requires
unused_zero-requires c =
    (c.requires.0, intact-whole c.args.sizes c.args.block.now c.in-Some.field-0 (sym c.in-Some.is ∙ c.check_lists.ensures))

pub returns : goal.returns
returns c =
    let clear = c.lists_clear in
    unused_decides c.args.sizes c.args.issued c.args.block.now c.in-Some.field-0
    (sym c.in-Some.is ∙ c.check_lists.ensures) clear.result clear.ensures
    c.if-not-lists_clear.false c.unused_zero.result c.unused_zero.ensures
