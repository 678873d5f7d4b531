-- `reach_by_strides` passes strides of words while they end before the last of the zeros. The loop's invariant: the words passed reach so far, and which words are left.
use Prim.Native.Nat.{◌+◌}
use native.Mathlib.Omega.{arith}
use Rattle.words.proofs.Forms.{length_split}
use Rattle.combinations.proofs.copying.Passing.{next_of, left_behind, covered_upto, reaches}
use Rattle.combinations.proofs.copying.reach_by_strides.Goals as goal

pub covered_by-requires : goal.covered_by-requires
covered_by-requires c =
    let l = c.loop-stride in
    let next = next_of c.args.list.now l.reach.words l.invariant.left l.invariant.size c.in-Some.ensures.steps.1 in
    omega (arith, covered_upto next, length_split c.args.list.now (l.reach.words + 16), c.requires.2)

pub overflow_add-end : goal.overflow_add-end
overflow_add-end c =
    let l = c.loop-stride in
    let next = next_of c.args.list.now l.reach.words l.invariant.left l.invariant.size c.in-Some.ensures.steps.1 in
    omega (arith, covered_upto next, length_split c.args.list.now (l.reach.words + 16), c.requires.2)

pub loop-stride-preserved : goal.loop-stride-preserved
loop-stride-preserved c =
    let l = c.loop-stride in
    let next = next_of c.args.list.now l.reach.words l.invariant.left l.invariant.size c.in-Some.ensures.steps.1 in
    record {
      reaches = reaches c.args.list.now c.args.zeros _ _ c.requires.1 (omega (arith, covered_upto next)) c.if-zeros-end.false;
      left = left_behind next;
      size = cc;
    }
