-- Numbers that are all alike: as the definition says it, and what they are. Assumes nothing.
use mathlib.Core.Path.{◌≡◌, refl, ap₂}
use mathlib.Core.Bool.{true, and-eq-true_iff}
use mathlib.Core.List.{List, [], ◌∷◌}
use Prim.Native.Nat.{ℕ}
use lib.Dec.{eqb}
use lib.ListN.{length, replicate}
use borrow.Author.Tests.{eqb-true}
use Rattle.std.specs.List.{list_all}
use Rattle.load_list.specs.Inner.{all_alike}

-- numbers that each pass the test are alike
pub alike_numbers : (number : ℕ) (numbers : List ℕ) → list_all (λ each. eqb each number) numbers ≡ all_alike number numbers
alike_numbers number [] = refl
alike_numbers number (next ∷ numbers) = rw (alike_numbers number numbers) refl

-- numbers that are alike are one, so many times
pub alike-replicate : (number : ℕ) (numbers : List ℕ) (count : ℕ) → length numbers ≡ count → all_alike number numbers ≡ true → numbers ≡ replicate count number
alike-replicate number [] count long e = rw (← long) refl
alike-replicate number (next ∷ numbers) count long e =
    let both = (and-eq-true_iff (eqb next number) (all_alike number numbers)).0 e in
    rw (← long) (ap₂ ◌∷◌ (eqb-true next number both.0) (alike-replicate number numbers (length numbers) refl both.1))
