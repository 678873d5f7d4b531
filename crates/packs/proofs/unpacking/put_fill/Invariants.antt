-- `put_fill` meets its contract. The loop's invariant: the first i bytes are the bit. Assumes nothing.
use mathlib.Core.Path.{◌≡◌}
use lib.ListN.{length, take, replicate}
use Rattle.packs.proofs.unpacking.put_fill.Given as goal

abbrev pub invariant-loop-row : goal.invariant-loop-row
invariant-loop-row l = (length l.out ≡ length l.initial.out) × (take l.row-index l.out ≡ replicate l.row-index l.bit)
