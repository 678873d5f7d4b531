-- Document 01 on refusals and outputs: the lowest number that applies is given; a refusal leaves the output as it was; output past the result stays.
use Rattle.std.specs.Prelude.{◌≡◌, Bool, true, false, List, [], ◌∷◌, ◌++◌, ℕ, Result, length, drop}
use Rattle.answers.specs.Numbers.{Paper, number_of, paper}
use Rattle.answers.specs.declared.Refusal.{Refusal}

infix 70 ◌when◌
-- a reason to refuse, and whether it applies
pub data Check : Type 0 where
  ◌when◌ : Refusal → Bool → Check

-- what a call answers and what its output holds when it returns
pub record Outcome : Type 0 where
  pub answer : Paper
  pub output : List ℕ

-- the first reason that applies refuses; where none does, the result is written over the output's front
abbrev pub outcome : List Check → List ℕ → List ℕ → Outcome
outcome [] result out = record { answer = record { number = 0; count = length result }; output = result ++ drop (length result) out }
outcome ((refusal when true) ∷ checks) result out = record { answer = record { number = number_of refusal; count = 0 }; output = out }
outcome ((refusal when false) ∷ checks) result out = outcome checks result out

-- an answer and an output are those of an outcome
pub record Gives (o : Outcome) (answer : Result ℕ Refusal) (out : List ℕ) : Type 0 where
  pub answers : paper answer ≡ o.answer
  pub leaves : out ≡ o.output
