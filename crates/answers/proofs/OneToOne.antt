-- The paper's number and count tell every answer apart, so an outcome allows one answer and one output. Assumes nothing.
use Rattle.std.specs.Prelude.{Result, Ok, Err}
use mathlib.Core.Path.{◌≡◌, refl, ◌∙◌, ap, sym}
use mathlib.Core.List.{List, [], ◌∷◌}
use Prim.Native.Nat.{ℕ, zero, suc}
use lib.ListN.{get_or}
use Rattle.answers.specs.Numbers.{Paper, paper}
use Rattle.answers.specs.Outcome.{Outcome, Gives}
use Rattle.answers.specs.declared.Refusal.{Refusal}
use Rattle.answers.specs.declared.Refusal.TheVariants.{BadHeader, Small, BadValue, NoRow, Full, Damaged, Gone, OutSmall, BadList, BadFrame}

-- the reasons in the order of their numbers
refusals : List Refusal
refusals = BadHeader ∷ Small ∷ BadValue ∷ NoRow ∷ Full ∷ Damaged ∷ Gone ∷ OutSmall ∷ BadList ∷ BadFrame ∷ []

-- the answer that a number and a count stand for
answer_of : ℕ → ℕ → Result ℕ Refusal
answer_of zero count = Ok count
answer_of (suc before) count = Err (get_or refusals before BadFrame)

back : (answer : Result ℕ Refusal) → answer_of (paper answer).number (paper answer).count ≡ answer
unfolding answer_of refusals
back (Ok count) = refl
back (Err BadHeader) = refl
back (Err Small) = refl
back (Err BadValue) = refl
back (Err NoRow) = refl
back (Err Full) = refl
back (Err Damaged) = refl
back (Err Gone) = refl
back (Err OutSmall) = refl
back (Err BadList) = refl
back (Err BadFrame) = refl

-- THEOREM: the paper's number and count are one-to-one
pub one_to_one : (a b : Result ℕ Refusal) → paper a ≡ paper b → a ≡ b
one_to_one a b e = sym (back a) ∙ ap (λ (p : Paper). answer_of p.number p.count) e ∙ back b

-- THEOREM: an outcome allows one answer and one output
pub gives_one : (o : Outcome) (a b : Result ℕ Refusal) (out out' : List ℕ) → Gives o a out → Gives o b out' → (a ≡ b) × (out ≡ out')
gives_one o a b out out' g h = (one_to_one a b (g.answers ∙ sym h.answers), g.leaves ∙ sym h.leaves)
