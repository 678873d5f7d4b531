-- `ones_of` meets its contract. The loop's invariant is `Counted`: the ones of the words read. Assumes nothing.
use Rattle.std.proofs.Common.{arith}
use Rattle.list_check.proofs.check.Counting.{count_none, span_fits, sum_fits, count-more, count_all}
use Rattle.list_check.proofs.check.ones_of.Goals as goal

pub loop-word-init : goal.loop-word-init
loop-word-init c = count_none c.args.list.now

pub ones_in-ones-requires : goal.ones_in-ones-requires
ones_in-ones-requires c =
    let loop = c.loop-word in
    span_fits c.args.list.now loop.word-index c.loop-word-test.true c.requires

pub overflow_add-ones : goal.overflow_add-ones
overflow_add-ones c =
    let loop = c.loop-word in
    omega (arith, sum_fits c.args.list.now loop.word-index c.loop-word-test.true loop.invariant c.ones_in-ones.result c.ones_in-ones.ensures c.requires)

pub loop-word-preserved : goal.loop-word-preserved
loop-word-preserved c =
    let loop = c.loop-word in
    count-more c.args.list.now loop.word-index c.loop-word-test.true loop.invariant c.ones_in-ones.result c.ones_in-ones.ensures

pub returns : goal.returns
returns c =
    let loop = c.loop-word in
    count_all c.args.list.now loop.ones loop.word-index c.loop-word-test.false loop.invariant
