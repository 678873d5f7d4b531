-- `fences_right`: the first j records are right, and the fence in hand is the one before fence j.
use Rattle.std.proofs.Common.{◌≡◌, ◌<◌, ℕ, true, get_or}
use Rattle.block_read.specs.Fences.{fence_at}
use Rattle.memory.specs.Fences.{no_fence, is_fence}
use Rattle.memory.specs.Inner.{fence_before}
use Rattle.memory.specs.Memory.{list_at, fences_at}
use Rattle.fence_records.proofs.records.fences_right.Given as goal

abbrev pub invariant-loop-j : goal.invariant-loop-j
invariant-loop-j l =
    (l.fence ≡ fence_before l.sizes (list_at l.sizes l.words l.value) l.j)
    × ((k : ℕ) → k < l.j
    → is_fence (fence_at l.sizes (list_at l.sizes l.words l.value) k) (get_or (fences_at l.sizes l.fences l.value) k no_fence) ≡ true)
