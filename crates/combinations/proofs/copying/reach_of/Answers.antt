-- `reach_of` goes on from the strides while the next word ends before the last of the zeros. The loop's invariant: the words passed reach so far.
use native.Mathlib.Omega.{arith}
use Rattle.combinations.proofs.copying.Passing.{span_behind, next-few, one-more}
use Rattle.combinations.proofs.copying.reach_of.Goals as goal

pub overflow_add-groups : goal.overflow_add-groups
overflow_add-groups c =
    let list = c.args.list.now in
    let l = c.loop-word in
    let span = span_behind list c.reach_by_strides-reach.result.words l.word-index c.span_of.ensures l.invariant.1 in
    omega (arith, next-few list c.args.zeros l.reach l.invariant.0, c.requires.2)

pub loop-word-preserved : goal.loop-word-preserved
loop-word-preserved c =
    let list = c.args.list.now in
    let l = c.loop-word in
    let span = span_behind list c.reach_by_strides-reach.result.words l.word-index c.span_of.ensures l.invariant.1 in
    (one-more list c.args.zeros l.reach c.span_of.result c.requires.1 l.invariant.0 span c.if-zeros-groups.false, omega arith)
