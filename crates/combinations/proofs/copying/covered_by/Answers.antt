-- `covered_by` adds the spans of the words. The loop's invariant: the sum is that of the words read.
use Prim.Native.Nat.{◌+◌}
use native.Mathlib.Omega.{arith}
use Rattle.words.proofs.Forms.{length_upto, length_split}
use Rattle.combinations.proofs.copying.covered_by.Goals as goal

pub overflow_add-groups : goal.overflow_add-groups
overflow_add-groups c =
    let more = length_upto c.args.words.now c.loop-word.word-index (omega arith) in
    omega (arith, more, length_split c.args.words.now (c.loop-word.word-index + 1), c.requires)

pub loop-word-preserved : goal.loop-word-preserved
loop-word-preserved c = omega (arith, length_upto c.args.words.now c.loop-word.word-index (omega arith))
