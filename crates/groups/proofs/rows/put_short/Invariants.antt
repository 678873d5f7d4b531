-- `put_short`: after i turns the first i bits of the group stand in front of what `out` had. Assumes nothing.
use mathlib.Core.Path.{◌≡◌}
use mathlib.Core.List.{◌++◌}
use lib.ListN.{length, take, drop}
use Rattle.groups.specs.Rows.{bits_of}
use Rattle.groups.proofs.rows.put_short.Given as goal

abbrev pub invariant-loop-i : goal.invariant-loop-i
invariant-loop-i l = (length l.out ≡ length l.initial.out) × (l.out ≡ take l.i (bits_of 31 l.group) ++ drop l.i l.initial.out)
