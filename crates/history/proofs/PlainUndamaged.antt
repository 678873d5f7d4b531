-- The plain column never says Damaged. Assumes nothing.
use mathlib.Core.Path.{◌≡◌, refl}
use mathlib.Core.Bool.{Bool, true, false, not, cond, ◌&&◌, and-eq-true_iff}
use mathlib.Core.List.{List, [], ◌∷◌}
use Prim.Native.Nat.{ℕ}
use native.Mathlib.Omega.{arith}
use lib.Dec.{leb, ltb, eqb}
use lib.ListN.{length}
use borrow.Author.Tests.{not-true, eqb-false}
use Rattle.answers.specs.Numbers.{number_of}
use Rattle.answers.specs.Outcome.{Check, ◌when◌, outcome}
use Rattle.answers.specs.declared.Refusal.TheVariants.{Full, Damaged, OutSmall}
use Rattle.history.specs.Calls.{Call, Load, Query, Value, Insert, Update, Delete, Merge, Dump, Audit, Said}
use Rattle.history.specs.Plain.{Plain, byte_at, PlainReply, state_of, refusing, plain_list, plain_bad_value, plain_no_row, plain_gone, plain_load_checks, plainly}

-- whether no check refuses by the number
abbrev never : ℕ → List Check → Bool
never number [] = true
never number (refusal when test ∷ checks) = not (eqb (number_of refusal) number) && never number checks

module _ (number : ℕ) where
  -- then the number is given only where the reply has it
  refusing-never : (checks : List Check) (plain : Plain) (reply : PlainReply) → never number checks ≡ true → (reply.said.number ≡ number → ⊥)
      → (refusing checks plain reply).said.number ≡ number → ⊥
  refusing-never [] plain reply other none = none
  refusing-never (refusal when true ∷ checks) plain reply other none =
      let both = (and-eq-true_iff (not (eqb (number_of refusal) number)) (never number checks)).0 other in
      eqb-false (number_of refusal) number (not-true (eqb (number_of refusal) number) both.0)
  refusing-never (refusal when false ∷ checks) plain reply other none =
      refusing-never checks plain reply ((and-eq-true_iff (not (eqb (number_of refusal) number)) (never number checks)).0 other).1 none

  outcome-never : (checks : List Check) (result out : List ℕ) → never number checks ≡ true → (0 ≡ number → ⊥)
      → (outcome checks result out).answer.number ≡ number → ⊥
  outcome-never [] result out other some = some
  outcome-never (refusal when true ∷ checks) result out other some =
      let both = (and-eq-true_iff (not (eqb (number_of refusal) number)) (never number checks)).0 other in
      eqb-false (number_of refusal) number (not-true (eqb (number_of refusal) number) both.0)
  outcome-never (refusal when false ∷ checks) result out other some =
      outcome-never checks result out ((and-eq-true_iff (not (eqb (number_of refusal) number)) (never number checks)).0 other).1 some

-- a byte stands for an answer of OK
state_answers : (byte : ℕ) → (state_of byte).number ≡ 0
state_answers byte = go (eqb byte 255)
  where
    go : (gone : Bool)
        → (cond {A = Said} gone (record { number = 0; count = 0; live = 0; value = 255 }) (record { number = 0; count = 0; live = 1; value = byte })).number ≡ 0
    go true = refl
    go false = refl

-- THEOREM: no call on a plain column reports damage
pub plain_undamaged : (plain : Plain) (call : Call) → (plainly plain call).said.number ≡ number_of Damaged → ⊥
plain_undamaged plain (Load rows values threshold spacing column) =
    refusing-never 6 (plain_load_checks plain.words plain.fences rows values threshold spacing column) plain _ refl (λ six. omega arith)
plain_undamaged plain (Query value out) =
    outcome-never 6 (plain_bad_value plain value ∷ OutSmall when ltb (length out) (length (plain_list plain value)) ∷ []) (plain_list plain value) out refl
    (λ six. omega arith)
plain_undamaged plain (Value row) = refusing-never 6 (plain_no_row plain row ∷ []) plain _ refl (λ six. omega (arith, state_answers (byte_at plain.column row)))
plain_undamaged plain (Insert value) =
    refusing-never 6 (plain_bad_value plain value ∷ Full when leb plain.rows (length plain.column) ∷ []) plain _ refl (λ six. omega arith)
plain_undamaged plain (Update row value) =
    refusing-never 6 (plain_bad_value plain value ∷ plain_no_row plain row ∷ plain_gone plain row ∷ []) plain _ refl (λ six. omega arith)
plain_undamaged plain (Delete row) = refusing-never 6 (plain_no_row plain row ∷ plain_gone plain row ∷ []) plain _ refl (λ six. omega arith)
plain_undamaged plain (Merge value) = refusing-never 6 (plain_bad_value plain value ∷ []) plain _ refl (λ six. omega arith)
plain_undamaged plain (Dump out) =
    outcome-never 6 (OutSmall when ltb (length out) (length plain.column) ∷ []) plain.column out refl (λ six. omega arith)
plain_undamaged plain Audit = λ six. omega arith
