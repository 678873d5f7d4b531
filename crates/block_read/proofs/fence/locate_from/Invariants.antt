-- `locate_from` meets its contract. The loop's invariant: the word sought is the one that is found from the fence in hand on. Assumes nothing.
use mathlib.Core.Path.{◌≡◌}
use Prim.Native.Nat.{◌+◌, ◌≤◌}
use lib.ListN.{drop}
use Rattle.block_read.specs.Fences.{locate, locate_from}
use Rattle.block_read.proofs.fence.locate_from.Given as goal

abbrev pub invariant-loop-word : goal.invariant-loop-word
invariant-loop-word l =
    (l.found.place ≡ l.fn.fence.place + l.word-index)
    × (l.found.first ≤ l.group)
    × (locate_from l.list l.fn.fence l.group ≡ locate (drop l.word-index l.word-items) l.found.place l.found.first l.group)
