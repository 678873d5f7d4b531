-- `mark_values`: each round marks the rows of one value; damage ends it.
use Rattle.std.proofs.Common.{arith}
use Rattle.fence_records.proofs.marking.Rounds.{none_seen, value_asks, value_seen, value_damaged, all_seen}
use Rattle.fence_records.proofs.marking.mark_values.Goals as goal

pub loop-value-init : goal.loop-value-init
loop-value-init c =
    let a = c.args in
    none_seen a.words.now a.fences.now c.requires.0 a.rows.now c.requires.1

pub mark_value-requires : goal.mark_value-requires
mark_value-requires c =
    let a = c.args in
    value_asks a.words.now a.fences.now c.requires.0 a.rows.now c.requires.1
    c.loop-value.value (omega arith) c.loop-value.rows c.loop-value.auto.rows

pub returns-then-not-mark_value : goal.returns-then-not-mark_value
returns-then-not-mark_value c =
    let a = c.args in
    value_damaged a.words.now a.fences.now c.requires.0 a.rows.now c.requires.1
    c.loop-value.value (omega arith) c.loop-value.rows c.loop-value.auto.rows c.loop-value.invariant
    c.mark_value.result c.mark_value.new.rows c.mark_value.ensures c.if-not-mark_value.true

pub loop-value-preserved : goal.loop-value-preserved
loop-value-preserved c =
    let a = c.args in
    value_seen a.words.now a.fences.now c.requires.0 a.rows.now c.requires.1
    c.loop-value.value (omega arith) c.loop-value.rows c.loop-value.auto.rows c.loop-value.invariant
    c.mark_value.result c.mark_value.new.rows c.mark_value.ensures c.if-not-mark_value.false

pub returns : goal.returns
returns c =
    let a = c.args in
    all_seen a.words.now a.fences.now c.requires.0 a.rows.now c.requires.1
    c.loop-value.value (omega arith) c.loop-value.rows c.loop-value.invariant
