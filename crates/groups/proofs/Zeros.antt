-- Lists of zeros: that all words are 0 as the bits of all of them together show it, and zeros after a list. Assumes nothing.
use mathlib.Core.Path.{◌≡◌, refl, ap, sym}
use mathlib.Core.Bool.{Bool, true, false, ◌&&◌, and_assoc, and-true}
use mathlib.Core.List.{List, [], ◌∷◌, ◌++◌}
use Prim.Native.Nat.{ℕ, zero, suc, ◌+◌, ◌<◌, ◌≤◌}
use native.Mathlib.Omega.{arith}
use native.Mathlib.Numerals.{add-one}
use lib.Bits.{bit_or, or_add_and, and_le_r, or_zero_l}
use lib.Dec.{eqb}
use lib.ListN.{length, get_or, drop, replicate, drop_of_length-le}
use lib.Seq.{drop-cons}
use borrow.Author.Tests.{eqb-true, eqb-false, ne_eqb}
use Rattle.groups.specs.Rows.{all_zero}

-- two words are 0 exactly where their bits together are
pub both_zero : (x y : ℕ) → eqb x 0 && eqb y 0 ≡ eqb (bit_or x y) 0
both_zero x y = go (eqb x 0) (eqb y 0) refl refl
  where
    go : (s t : Bool) → eqb x 0 ≡ s → eqb y 0 ≡ t → s && t ≡ eqb (bit_or x y) 0
    go true t p q = rw (eqb-true x 0 p, or_zero_l y) (sym q)
    go false t p q = rw (ne_eqb (bit_or x y) 0 (λ e. eqb-false x 0 p (omega (arith, or_add_and x y, and_le_r x y)))) refl

-- the loop that gathers the bits of the words so far: a turn, and the end
pub gathered-more : (words : List ℕ) (gathered i : ℕ) → i < length words
    → eqb gathered 0 && all_zero (drop i words) ≡ eqb (bit_or gathered (get_or words i 0)) 0 && all_zero (drop (i + 1) words)
gathered-more words gathered i h = rw (drop-cons words i 0 h, add-one, ← both_zero) (sym (and_assoc (eqb gathered 0) (eqb (get_or words i 0) 0) (all_zero (drop (suc i) words))))

pub gathered_all : (words : List ℕ) (gathered i : ℕ) → length words ≤ i → eqb gathered 0 && all_zero (drop i words) ≡ eqb gathered 0
gathered_all words gathered i h = rw (drop_of_length-le words h) (and-true (eqb gathered 0))

-- one list after another
pub all_zero-append : (front back : List ℕ) → all_zero (front ++ back) ≡ all_zero front && all_zero back
all_zero-append [] back = refl
all_zero-append (row ∷ front) back = rw (all_zero-append front back, and_assoc) refl

-- zeros after a list
zeros-from : (i count : ℕ) → all_zero (drop i (replicate count 0)) ≡ true
zeros-from zero zero = refl
zeros-from (suc i) zero = refl
zeros-from zero (suc count) = zeros-from zero count
zeros-from (suc i) (suc count) = zeros-from i count

pub zeros-behind : (rows : List ℕ) (i count : ℕ) → all_zero (drop i (rows ++ replicate count 0)) ≡ all_zero (drop i rows)
zeros-behind [] zero count = zeros-from zero count
zeros-behind [] (suc i) count = zeros-from (suc i) count
zeros-behind (row ∷ rows) zero count = ap (◌&&◌ (eqb row 0)) (zeros-behind rows zero count)
zeros-behind (row ∷ rows) (suc i) count = zeros-behind rows i count
