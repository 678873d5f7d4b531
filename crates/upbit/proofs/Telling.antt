-- The numbers of what a call answered are those of its outcome. Assumes nothing.
use Rattle.std.specs.Prelude.{Result}
use mathlib.Core.Path.{◌≡◌, ap, ◌∙◌}
use mathlib.Core.List.{List}
use Prim.Native.Nat.{ℕ}
use Rattle.answers.specs.Numbers.{paper}
use Rattle.answers.specs.Outcome.{Outcome, Gives}
use Rattle.memory.specs.Outcomes.{After, Leaves}
use Rattle.memory.specs.declared.header.Changed.{Changed}
use Rattle.block_read.specs.declared.fence.Fence.{Fence}
use Rattle.upbit.specs.Told.{answer_numbers_of, changed_numbers_of, Tells, Told}
use Rattle.upbit.specs.declared.numbers.AnswerNumbers.{AnswerNumbers}
use Rattle.upbit.specs.declared.numbers.ChangedNumbers.{ChangedNumbers}
use Rattle.answers.specs.declared.Refusal.{Refusal}

pub answer_told : {o : Outcome} {answer : Result ℕ Refusal} {out : List ℕ} {numbers : AnswerNumbers}
    → Gives o answer out → numbers ≡ answer_numbers_of (paper answer) → Tells o numbers out
answer_told given e = record { answers = e ∙ ap answer_numbers_of given.answers; leaves = given.leaves }

pub change_told : {after : After} {changed : Changed} {words : List ℕ} {fences : List Fence} {numbers : ChangedNumbers}
    → Leaves after changed words fences → numbers ≡ changed_numbers_of changed.header (paper changed.answer) → Told after numbers words fences
change_told {after} {changed} left e =
    record {
      answers = e ∙ ap (λ header. changed_numbers_of header (paper changed.answer)) left.gives ∙ ap (changed_numbers_of after.header) left.answers;
      leaves = left.leaves;
      keeps = left.keeps;
    }
