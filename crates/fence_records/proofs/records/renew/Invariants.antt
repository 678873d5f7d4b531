-- `renew`: the first j fences are made anew, and the fence in hand is the one before fence j.
use Rattle.std.proofs.Common.{◌≡◌, take}
use Rattle.memory.specs.Fences.{fences_from}
use Rattle.memory.specs.Inner.{fence_before}
use Rattle.memory.specs.Memory.{list_at}
use Rattle.fence_records.proofs.records.renew.Given as goal

abbrev pub invariant-loop-j : goal.invariant-loop-j
invariant-loop-j l =
    (l.fence ≡ fence_before l.sizes (list_at l.sizes l.words l.value) l.j)
    × (take l.j l.record-items ≡ fences_from l.sizes (list_at l.sizes l.words l.value) 0 l.j)
