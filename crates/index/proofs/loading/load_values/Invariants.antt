-- `load_values`: the fences of the first values are those of the memory in which these values are loaded.
use Rattle.std.proofs.Common.{◌≡◌}
use Rattle.memory.specs.Memory.{sizes_of, memory_of}
use Rattle.index.specs.Calls.{loaded_in}
use Rattle.index.proofs.loading.load_values.Given as goal

abbrev pub invariant-loop-value : goal.invariant-loop-value
invariant-loop-value l = l.fences ≡ (loaded_in (sizes_of l.fn.header) l.fn.column l.value (memory_of l.fn.words l.fn.fences)).fences
