-- `all_zero`: the words are 0 where the bits gathered so far are and the words still to come are 0. Assumes nothing.
use mathlib.Core.Path.{◌≡◌}
use mathlib.Core.Bool.{◌&&◌}
use lib.Dec.{eqb}
use lib.ListN.{drop}
use Rattle.groups.specs.Rows.{all_zero}
use Rattle.groups.proofs.rows.all_zero.Given as goal

abbrev pub invariant-loop-word : goal.invariant-loop-word
invariant-loop-word l = all_zero l.words ≡ (eqb l.gathered 0 && all_zero (drop l.word-index l.words))
