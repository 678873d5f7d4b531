-- `put_values` asks for one value a round, and writes its line after the others.
use Rattle.std.proofs.Common.{◌≡◌, length}
use Rattle.std.proofs.lemmas.List.Edits.{sets}
use Rattle.memory.specs.Memory.{memory_of}
use Rattle.print.specs.Printed.{value_lines}
use Rattle.print.proofs.printing.put_values.Given as goal

abbrev pub invariant-loop-value : goal.invariant-loop-value
invariant-loop-value l =
    (l.next ≡ length (value_lines l.header (memory_of l.words l.fences) l.value))
    × (l.out ≡ sets l.initial.out 0 (value_lines l.header (memory_of l.words l.fences) l.value))
