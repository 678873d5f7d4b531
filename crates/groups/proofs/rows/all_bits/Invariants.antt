-- `all_bits`: the rows are bits where the largest row so far is one and the rows still to come are bits. Assumes nothing.
use mathlib.Core.Path.{◌≡◌}
use mathlib.Core.Bool.{◌&&◌}
use lib.Dec.{ltb}
use lib.ListN.{drop}
use Rattle.groups.specs.Rows.{are_bits}
use Rattle.groups.proofs.rows.all_bits.Given as goal

abbrev pub invariant-loop-row : goal.invariant-loop-row
invariant-loop-row l = are_bits l.rows ≡ (ltb l.largest 2 && are_bits (drop l.row-index l.rows))
