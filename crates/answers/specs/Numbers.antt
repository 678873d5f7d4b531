-- Document 01, "Numbers a caller can get back": the table's numbers under its names, and the number and count of each answer.
use Rattle.std.specs.Prelude.{ℕ, Result, Ok, Err}
use Rattle.answers.specs.declared.Refusal.{Refusal}
use Rattle.answers.specs.declared.Refusal.TheVariants.{BadHeader, Small, BadValue, NoRow, Full, Damaged, Gone, OutSmall, BadList, BadFrame}

-- the number of each reason
abbrev pub number_of : Refusal → ℕ
number_of BadHeader = 1
number_of Small = 2
number_of BadValue = 3
number_of NoRow = 4
number_of Full = 5
number_of Damaged = 6
number_of Gone = 7
number_of OutSmall = 8
number_of BadList = 9
number_of BadFrame = 10

-- what the paper says of an answer: its number, and the words or bytes written or the row given, 0 when refused
pub record Paper : Type 0 where
  pub number : ℕ
  pub count : ℕ

-- the paper's number and count of each answer; 0 is OK
abbrev pub paper : Result ℕ Refusal → Paper
paper (Ok count) = record { number = 0; count = count }
paper (Err refusal) = record { number = number_of refusal; count = 0 }
