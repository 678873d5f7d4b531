-- Document 01 on changes: the first reason that applies refuses and changes nothing; where none applies, the change is made.
use Rattle.std.specs.Prelude.{◌≡◌, true, false, List, [], ◌∷◌, ℕ}
use Rattle.answers.specs.Numbers.{Paper, number_of, paper}
use Rattle.answers.specs.Outcome.{Check, ◌when◌}
use Rattle.memory.specs.Memory.{Memory}
use Rattle.memory.specs.declared.header.Header.{Header}
use Rattle.block_read.specs.declared.fence.Fence.{Fence}
use Rattle.memory.specs.declared.header.Changed.{Changed}

-- what a change leaves: the answer, the header given back, and the memory
pub record After : Type 0 where
  pub answer : Paper
  pub header : Header
  pub memory : Memory

-- the change is made, and answers a count
abbrev pub made : ℕ → Header → Memory → After
made count header memory = record { answer = record { number = 0; count = count }; header = header; memory = memory }

-- the change of some checks: `after` where none refuses; a refusal gives the header `back` and leaves the memory
abbrev pub change : List Check → Header → Memory → After → After
change [] back memory after = after
change ((refusal when true) ∷ checks) back memory after =
    record { answer = record { number = number_of refusal; count = 0 }; header = back; memory = memory }
change ((refusal when false) ∷ checks) back memory after = change checks back memory after

-- an answer with its header, and the words and fences left, are those of a change
pub record Leaves (after : After) (changed : Changed) (words : List ℕ) (fences : List Fence) : Type 0 where
  pub answers : paper changed.answer ≡ after.answer
  pub gives : changed.header ≡ after.header
  pub leaves : words ≡ after.memory.words
  pub keeps : fences ≡ after.memory.fences
