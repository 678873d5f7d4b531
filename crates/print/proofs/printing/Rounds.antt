-- One round of printing: a value is asked for, and its line written after the others. Assumes nothing.
use Rattle.std.specs.Prelude.{Result}
use mathlib.Core.Path.{◌≡◌, ◌∙◌}
use mathlib.Core.List.{List}
use Prim.Native.Nat.{ℕ, ◌+◌, ◌<◌, ◌≤◌}
use lib.ListN.{length}
use lib.Seq.{sets}
use Rattle.answers.specs.Numbers.{paper}
use Rattle.answers.specs.Outcome.{Gives}
use Rattle.memory.specs.Memory.{Memory, memory_of}
use Rattle.index.specs.Calls.{query_outcome}
use Rattle.memory.specs.declared.header.Header.{Header}
use Rattle.block_read.specs.declared.fence.Fence.{Fence}
use Rattle.print.specs.Printed.{answer_line, query_line, value_lines}
use Rattle.print.proofs.Lines.{asked-count, asked_line, line_fits, line_added}
use Rattle.answers.specs.declared.Refusal.{Refusal}

module _ (words : List ℕ) (fences : List Fence) (header : Header) (list out : List ℕ)
    (req : (length list ≡ 4096) × (length (value_lines header (memory_of words fences) header.values) ≤ length out)) where
  abbrev memory : Memory
  memory = memory_of words fences

  module _ (value : ℕ) (below : value < header.values) (now-list : List ℕ) (as_long : length now-list ≡ length list)
      (now-out : List ℕ) (as_wide : length now-out ≡ length out) (next : ℕ) (at : next ≡ length (value_lines header memory value))
      (answer : Result ℕ Refusal) (left : List ℕ) (gives : Gives (query_outcome header memory value now-list) answer left) where
    line : answer_line value (paper answer) left ≡ query_line header memory value
    line = asked_line header memory value now-list (as_long ∙ req.0) answer left gives

    pub turn_fits : ((paper answer).count ≤ length left) × (next + length (answer_line value (paper answer) left) ≤ length now-out)
    turn_fits = (
      asked-count header memory value now-list (as_long ∙ req.0) answer left gives,
      rw line (line_fits header memory value out now-out next at as_wide below req.1),
    )

    pub turn_adds : now-out ≡ sets out 0 (value_lines header memory value) → (after : ℕ) (wrote : List ℕ)
        → (after ≡ next + length (answer_line value (paper answer) left)) × (wrote ≡ sets now-out next (answer_line value (paper answer) left))
        → (after ≡ length (value_lines header memory (value + 1))) × (wrote ≡ sets out 0 (value_lines header memory (value + 1)))
    turn_adds is after wrote puts =
        let put = rw line at puts in line_added header memory value out now-out next at is after put.0 wrote put.1
