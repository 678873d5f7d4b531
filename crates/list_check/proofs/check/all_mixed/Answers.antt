-- `all_mixed` meets its contract. The loop's invariant is `Unmarked`: where no mark is gathered, the words read are mixed. Assumes nothing.
use Rattle.std.proofs.Common.{◌/◌, arith, eqb-true}
use Rattle.list_check.proofs.check.Marks.{none_marked, next_mark, all_unmarked}
use Rattle.list_check.proofs.check.all_mixed.Goals as goal

pub loop-word-init : goal.loop-word-init
loop-word-init c = none_marked c.args.words.now

pub loop-word-preserved : goal.loop-word-preserved
loop-word-preserved c =
    next_mark c.loop-word.invariant c.loop-word-test.true c.run_mark-marks.result c.run_mark-marks.ensures

pub returns : goal.returns
returns c = λ low. all_unmarked c.loop-word.invariant c.loop-word-test.false (omega (arith, eqb-true (c.loop-word.marks / 0x80000000) 0 low))
