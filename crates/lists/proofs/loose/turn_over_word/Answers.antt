-- `turn_over_word` meets its contract: a fill of ones is a part of the groups, and any other word is one group or turns nothing over.
use mathlib.Core.Path.{◌∙◌, ap, sym}
use Prim.Native.Nat.{◌+◌}
use borrow.Author.Tests.{leb-false}
use Rattle.lists.proofs.loose.Word.{group_small, part_small, one-turned}
use Rattle.lists.proofs.loose.turn_over_word.Goals as goal

pub turn_over_each-requires : goal.turn_over_each-requires
turn_over_each-requires c = (
  part_small c.args.groups.now c.args.at _ c.requires.0 c.requires.1 _ (ap (◌+◌ c.args.at) c.span_of.ensures),
  rw c.group_in-group.ensures (group_small c.args.word),
)

pub returns-then-at-groups : goal.returns-then-at-groups
returns-then-at-groups c =
    let no_ones = leb-false 0xC0000000 _ (sym c.is_ones_fill.ensures ∙ c.if-is_ones_fill.false) in (
      ap (◌+◌ c.args.at) c.span_of.ensures,
      rw c.group_in-group.ensures (one-turned c.args.groups.now c.args.at c.args.word c.requires.0 c.requires.1 no_ones c.if-at-groups.true),
    )
