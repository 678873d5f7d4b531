-- What a call under a C name gives back: the numbers of the paper's answer, beside all that the call leaves.
use Rattle.std.specs.Prelude.{◌≡◌, List, ℕ}
use Rattle.answers.specs.Numbers.{Paper}
use Rattle.answers.specs.Outcome.{Outcome}
use Rattle.memory.specs.Outcomes.{After}
use Rattle.memory.specs.Reading.{ValuePaper}
use Rattle.memory.specs.declared.header.Header.{Header}
use Rattle.block_read.specs.declared.fence.Fence.{Fence}
use Rattle.upbit.specs.declared.numbers.AnswerNumbers.{AnswerNumbers}
use Rattle.upbit.specs.declared.numbers.ChangedNumbers.{ChangedNumbers}
use Rattle.upbit.specs.declared.numbers.RowNumbers.{RowNumbers}

-- the paper's answer
abbrev pub answer_numbers_of : Paper → AnswerNumbers
answer_numbers_of answer = record { number = answer.number; count = answer.count }

-- beside a header
abbrev pub changed_numbers_of : Header → Paper → ChangedNumbers
changed_numbers_of header answer = record { header = header; answer = answer_numbers_of answer }

-- the paper's answer of Value
abbrev pub row_numbers_of : ValuePaper → RowNumbers
row_numbers_of value = record { number = value.number; live = value.live; value = value.value; opened = value.opened }

-- numbers and an output are those of an outcome
pub record Tells (o : Outcome) (answer : AnswerNumbers) (out : List ℕ) : Type 0 where
  pub answers : answer ≡ answer_numbers_of o.answer
  pub leaves : out ≡ o.output

-- numbers with their header, and the words and fences left, are those of a change
pub record Told (after : After) (changed : ChangedNumbers) (words : List ℕ) (fences : List Fence) : Type 0 where
  pub answers : changed ≡ changed_numbers_of after.header after.answer
  pub leaves : words ≡ after.memory.words
  pub keeps : fences ≡ after.memory.fences
