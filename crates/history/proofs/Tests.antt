-- Proofs by cases: of a test, of a test of 1 or 0, and of one number among all. Assumes nothing.
use mathlib.Core.Path.{◌≡◌, refl}
use mathlib.Core.Bool.{Bool, true, false, cond}
use mathlib.Core.Logic.{◌↔◌}
use Prim.Native.Nat.{ℕ}
use native.Mathlib.Omega.{arith}
use lib.Dec.{eqb}
use borrow.Author.Tests.{eqb-true, eqb-false, eq-eqb}

-- a test holds or it does not
pub either : {P : Type 0} (test : Bool) → (test ≡ true → P) → (test ≡ false → P) → P
either true holds fails = holds refl
either false holds fails = fails refl

-- a test of 1 or 0 is 1 exactly where the numbers are equal
pub one_exactly : (a b : ℕ) → (◌≡◌ {A = ℕ} (cond (eqb a b) 1 0) 1) ↔ (a ≡ b)
one_exactly a b = (
  λ one. either (eqb a b) (eqb-true a b) (λ differ. absurd (omega (arith, rw differ at one))),
  λ same. rw (eq-eqb a b same) refl,
)

-- what holds of a number and of every other holds of each
pub of_each : (number : ℕ) (P : ℕ → Type 0) → P number → ((other : ℕ) → (number ≡ other → ⊥) → P other) → (each : ℕ) → P each
of_each number P here others each =
    either (eqb number each)
    (λ same. rw (eqb-true number each same) at here)
    (λ differ. others each (eqb-false number each differ))
