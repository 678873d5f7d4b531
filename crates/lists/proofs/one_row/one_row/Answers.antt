-- `one_row` packs one row: the zeros before it are taken in, then its group, and then the zeros after it. Assumes nothing.
use mathlib.Core.List.{List, [], ◌∷◌}
use Prim.Native.Nat.{ℕ}
use native.Mathlib.Omega.{arith}
use Rattle.std.proofs.Common.{rules}
use Rattle.groups.proofs.Table.{mask_at}
use Rattle.lists.proofs.OneRow.{few-one_row, before_fit, group_fits, after_fit, all_close, packs}
use Rattle.lists.proofs.one_row.one_row.Goals as goal

-- the words before the first is written
abbrev blank : List ℕ
blank = 0 ∷ 0 ∷ 0 ∷ []

pub push_zeros-requires : goal.push_zeros-requires
push_zeros-requires c =
    before_fit c.args.groups c.args.row blank (few-one_row c.args.groups c.args.row) c.requires.0 c.requires.1 c.new-list.result c.new-list.ensures.begins

pub push-requires : goal.push-requires
push-requires c = (
  omega arith,
  λ p q. omega arith,
  group_fits c.args.groups c.args.row blank (few-one_row c.args.groups c.args.row) c.requires.0 c.requires.1 c.new-list.result c.new-list.ensures.begins
      c.push_zeros.ensures.follows _ (mask_at _ (omega arith)),
)

pub push_zeros-requires-2 : goal.push_zeros-requires-2
push_zeros-requires-2 c =
    after_fit c.args.groups c.args.row blank (few-one_row c.args.groups c.args.row) c.requires.0 c.requires.1 c.new-list.result c.new-list.ensures.begins
    c.push_zeros.ensures.follows _ (mask_at _ (omega arith)) c.push.ensures.follows

pub finish-count-requires : goal.finish-count-requires
finish-count-requires c =
    all_close c.args.groups c.args.row blank (few-one_row c.args.groups c.args.row) c.requires.0 c.requires.1 c.new-list.result c.new-list.ensures.begins
    c.push_zeros.ensures.follows _ (mask_at _ (omega arith)) c.push.ensures.follows c.push_zeros-2.ensures.follows

pub returns : goal.returns
returns c =
    let e = c.finish-count.ensures in
    rw e.0
    (packs c.args.groups c.args.row blank (few-one_row c.args.groups c.args.row) c.requires.0 c.requires.1 c.new-list.result c.new-list.ensures.begins
    c.push_zeros.ensures.follows _ (mask_at _ (omega arith)) c.push.ensures.follows c.push_zeros-2.ensures.follows (search (rules, e)))
