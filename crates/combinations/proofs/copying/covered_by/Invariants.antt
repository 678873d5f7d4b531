-- `covered_by` adds the spans of the words. The loop's invariant: the sum is that of the words read.
use mathlib.Core.Path.{◌≡◌}
use lib.ListN.{length, take}
use Rattle.words.specs.Words.{decode}
use Rattle.combinations.proofs.copying.covered_by.Given as goal

abbrev pub invariant-loop-word : goal.invariant-loop-word
invariant-loop-word l = l.groups ≡ length (decode (take l.word-index l.words))
