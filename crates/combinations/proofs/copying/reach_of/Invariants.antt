-- `reach_of` goes on from the strides while the next word ends before the last of the zeros. The loop's invariant: the words passed reach so far.
use mathlib.Core.Path.{◌≡◌}
use Prim.Native.Nat.{◌+◌}
use Rattle.combinations.specs.Inner.{Reaches}
use Rattle.combinations.proofs.copying.reach_of.Given as goal

abbrev pub invariant-loop-word : goal.invariant-loop-word
invariant-loop-word l = Reaches l.list l.zeros l.reach × (l.reach.words ≡ l.initial.reach.words + l.word-index)
