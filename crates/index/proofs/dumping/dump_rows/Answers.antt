-- `dump_rows`: the rows are marked in an array of their own, and given if none is damaged.
use Rattle.std.proofs.Common.{arith, refl}
use Rattle.fence_records.proofs.marking.Rounds.{count_asks}
use Rattle.index.proofs.dumping.Exits.{dump_damaged, dump_done}
use Rattle.index.proofs.dumping.dump_rows.Goals as goal

pub mark_values-requires : goal.mark_values-requires
mark_values-requires c = (c.requires, omega (arith, count_asks c.args.words.now c.args.fences.now c.requires))

pub returns-then-not-mark_values : goal.returns-then-not-mark_values
returns-then-not-mark_values c =
    let a = c.args in
    let marks = c.mark_values in
    dump_damaged a.words.now a.fences.now a.header a.out.now c.requires _ refl marks.result marks.new.rows marks.ensures c.if-not-mark_values.true

pub give_rows-requires : goal.give_rows-requires
give_rows-requires c = omega (arith, c.mark_values.auto.rows, count_asks c.args.words.now c.args.fences.now c.requires)

pub returns : goal.returns
returns c =
    let a = c.args in
    let marks = c.mark_values in
    let gives = c.give_rows in
    dump_done a.words.now a.fences.now a.header a.out.now c.requires _ refl marks.result marks.new.rows marks.ensures c.if-not-mark_values.false
    gives.result gives.new.out gives.ensures
