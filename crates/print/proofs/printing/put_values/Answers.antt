-- `put_values` asks for one value a round, and writes its line after the others.
use Rattle.std.proofs.Common.{refl, arith, ◌≡◌}
use Rattle.print.proofs.printing.Rounds.{turn_fits, turn_adds}
use Rattle.print.proofs.printing.put_values.Goals as goal

pub loop-value-init : goal.loop-value-init
loop-value-init c = (refl, refl)

pub put_answer-next-requires : goal.put_answer-next-requires
put_answer-next-requires c =
    turn_fits c.args.words.now c.args.fences.now c.args.header c.args.list.now c.args.out.now c.requires c.loop-value.value (omega arith)
    c.loop-value.list c.loop-value.auto.list c.loop-value.out c.loop-value.auto.out c.loop-value.next c.loop-value.invariant.0
    c.query-answer.result c.query-answer.new.out c.query-answer.ensures

pub loop-value-preserved : goal.loop-value-preserved
loop-value-preserved c =
    turn_adds c.args.words.now c.args.fences.now c.args.header c.args.list.now c.args.out.now c.requires c.loop-value.value (omega arith)
    c.loop-value.list c.loop-value.auto.list c.loop-value.out c.loop-value.auto.out c.loop-value.next c.loop-value.invariant.0
    c.query-answer.result c.query-answer.new.out c.query-answer.ensures c.loop-value.invariant.1
    c.put_answer-next.result c.put_answer-next.new.out c.put_answer-next.ensures

pub returns : goal.returns
returns c =
    let all : c.loop-value.value ≡ c.args.header.values = omega arith in
    rw all at c.loop-value.invariant
