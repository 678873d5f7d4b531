-- Document 01, "How tightly each call is bound": any two outcomes that a promise allows are equal. A promise of Value, Audit or the room says outright what the numbers are. Assumes nothing.
use mathlib.Core.Path.{◌≡◌, sym, ◌∙◌}
use mathlib.Core.List.{List}
use Prim.Native.Nat.{ℕ}
use Rattle.answers.specs.Outcome.{Outcome}
use Rattle.memory.specs.Outcomes.{After}
use Rattle.block_read.specs.declared.fence.Fence.{Fence}
use Rattle.upbit.specs.Told.{Tells, Told}
use Rattle.upbit.specs.declared.numbers.AnswerNumbers.{AnswerNumbers}
use Rattle.upbit.specs.declared.numbers.ChangedNumbers.{ChangedNumbers}

-- a call with an output
pub one_output : {o : Outcome} {a b : AnswerNumbers} {out other : List ℕ} → Tells o a out → Tells o b other → (a ≡ b) × (out ≡ other)
one_output t u = (t.answers ∙ sym u.answers, t.leaves ∙ sym u.leaves)

-- a change
pub one-change : {after : After} {a b : ChangedNumbers} {words others : List ℕ} {fences records : List Fence} → Told after a words fences
    → Told after b others records → (a ≡ b) × (words ≡ others) × (fences ≡ records)
one-change t u = (t.answers ∙ sym u.answers, t.leaves ∙ sym u.leaves, t.keeps ∙ sym u.keeps)
