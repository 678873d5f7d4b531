-- `read_row`: the first values are read.
use Rattle.std.proofs.Common.{◌≡◌}
use Rattle.memory.specs.Memory.{memory_of}
use Rattle.memory.specs.Reading.{read_row}
use Rattle.fence_records.proofs.reading.read_row.Given as goal

abbrev pub invariant-loop-value : goal.invariant-loop-value
invariant-loop-value l = l.found ≡ read_row l.sizes (memory_of l.words l.fences) l.row l.value
