-- `mark_value`: the first j fences are visited, and no row is damaged.
use Rattle.memory.specs.Memory.{memory_of}
use Rattle.fence_records.proofs.marking.Rounds.{FencesSeen}
use Rattle.fence_records.proofs.marking.mark_value.Given as goal

abbrev pub invariant-loop-j : goal.invariant-loop-j
invariant-loop-j l =
    FencesSeen l.header (memory_of l.words l.fences) l.value l.initial.rows l.j l.rows
