-- A test of every number below a given one. Assumes nothing.
use mathlib.Core.Path.{◌≡◌, refl}
use mathlib.Core.Bool.{Bool, true, and-eq-true_iff}
use mathlib.Core.Logic.{by_cases}
use Prim.Native.Nat.{ℕ, zero, suc, ◌<◌}
use native.Mathlib.Decide.{dec_lt}
use native.Mathlib.Omega.{arith}
use Rattle.memory.specs.Memory.{every}

-- it holds of each, and back
pub every_holds : (count : ℕ) (test : ℕ → Bool) → every count test ≡ true → (number : ℕ) → number < count → test number ≡ true
every_holds zero test e number h = absurd (omega arith)
every_holds (suc count) test e number h =
    let both = (and-eq-true_iff (every count test) (test count)).0 e in
    by_cases (dec_lt number count)
    (λ less. every_holds count test both.0 number less)
    (λ last. let same : number ≡ count = omega (arith, last) in rw same both.1)

pub holds_every : (count : ℕ) (test : ℕ → Bool) → ((number : ℕ) → number < count → test number ≡ true) → every count test ≡ true
holds_every zero test h = refl
holds_every (suc count) test h =
    rw (holds_every count test (λ number less. h number (omega arith)), h count (omega arith)) refl
