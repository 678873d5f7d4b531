-- `mark_values`: the first values are visited, and no row is damaged.
use Rattle.memory.specs.Memory.{memory_of}
use Rattle.fence_records.proofs.marking.Rounds.{ValuesSeen}
use Rattle.fence_records.proofs.marking.mark_values.Given as goal

abbrev pub invariant-loop-value : goal.invariant-loop-value
invariant-loop-value l = ValuesSeen l.header (memory_of l.words l.fences) l.initial.rows l.value l.rows
