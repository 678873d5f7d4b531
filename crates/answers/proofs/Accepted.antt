-- Calls that are not refused: what an outcome of number 0 says of its checks, and what it then is. Assumes nothing.
use Rattle.std.specs.Prelude.{Result, Ok, Err}
use mathlib.Core.Path.{◌≡◌, refl}
use mathlib.Core.Bool.{true, false}
use mathlib.Core.List.{List, [], ◌∷◌}
use Prim.Native.Nat.{ℕ}
use native.Mathlib.Omega.{arith}
use Rattle.answers.specs.Numbers.{number_of}
use Rattle.answers.specs.Outcome.{Check, ◌when◌, Outcome, outcome}
use Rattle.answers.specs.declared.Refusal.{Refusal}
use Rattle.answers.proofs.OneToOne.{one_to_one}

-- number 0, the length of the result, and the result over the output's front
abbrev pub done : List ℕ → List ℕ → Outcome
done result out = outcome [] result out

-- no check refuses
abbrev pub Passes : List Check → Type 0
Passes [] = Unit
Passes (refusal when test ∷ checks) = (test ≡ false) × Passes checks

-- the number of a refusal is never 0
pub no_zero : (refusal : Refusal) → number_of refusal ≡ 0 → ⊥
no_zero refusal e =
    let same : ◌≡◌ {A = Result ℕ Refusal} (Err refusal) (Ok 0) = one_to_one (Err refusal) (Ok 0) (rw e refl) in
    let z : ◌≡◌ {A = ℕ} 0 1 = cc in
    omega arith

-- number 0 is given only where no check refuses
pub accepted : (checks : List Check) (result out : List ℕ) → (outcome checks result out).answer.number ≡ 0 → Passes checks
accepted [] result out e = tt
accepted (refusal when true ∷ checks) result out e = absurd (no_zero refusal e)
accepted (refusal when false ∷ checks) result out e = (refl, accepted checks result out e)

-- and there the result is written
pub passes_done : (checks : List Check) (result out : List ℕ) → Passes checks → outcome checks result out ≡ done result out
passes_done [] result out p = refl
passes_done (refusal when test ∷ checks) result out p = rw p.0 (passes_done checks result out p.1)
