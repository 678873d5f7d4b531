-- Lists of bits: what `are_bits` says of each row, and of the parts of a list. Assumes nothing.
use mathlib.Core.Path.{◌≡◌, refl}
use mathlib.Core.Bool.{Bool, true, false, ◌&&◌, and_assoc, and-true, and-eq-true_iff}
use mathlib.Core.List.{List, [], ◌∷◌, ◌++◌}
use Prim.Native.Nat.{ℕ, zero, suc, max, ◌+◌, ◌<◌, ◌≤◌}
use native.Mathlib.Omega.{arith}
use native.Mathlib.Numerals.{add-one}
use lib.Dec.{ltb}
use lib.ListN.{length, get_or, take, drop, set, take-append-drop, drop_of_length-le}
use lib.Seq.{drop-cons}
use borrow.Author.Tests.{lt-ltb, le-ltb, ltb-true, ltb-false}
use Rattle.groups.specs.Rows.{are_bits}

module _ (row : ℕ) (rows : List ℕ) (bits : are_bits (row ∷ rows) ≡ true) where
  pub first_bit : row < 2
  first_bit = ltb-true row 2 ((and-eq-true_iff (ltb row 2) (are_bits rows)).0 bits).0

  pub other_bits : are_bits rows ≡ true
  other_bits = ((and-eq-true_iff (ltb row 2) (are_bits rows)).0 bits).1

-- each row is a bit
pub are_bits-get_or : (rows : List ℕ) → are_bits rows ≡ true → (i : ℕ) → get_or rows i 0 < 2
are_bits-get_or [] bits i = omega arith
are_bits-get_or (row ∷ rows) bits zero = first_bit row rows bits
are_bits-get_or (row ∷ rows) bits (suc i) = are_bits-get_or rows (other_bits row rows bits) i

pub are_bits-append : (front back : List ℕ) → are_bits (front ++ back) ≡ are_bits front && are_bits back
are_bits-append [] back = refl
are_bits-append (row ∷ front) back = rw (are_bits-append front back, and_assoc) refl

module _ (n : ℕ) (rows : List ℕ) (bits : are_bits rows ≡ true) where
  parts : are_bits (take n rows) && are_bits (drop n rows) ≡ true
  parts = rw (← are_bits-append, take-append-drop) bits

  pub are_bits-take : are_bits (take n rows) ≡ true
  are_bits-take = ((and-eq-true_iff (are_bits (take n rows)) (are_bits (drop n rows))).0 parts).0

  pub are_bits-drop : are_bits (drop n rows) ≡ true
  are_bits-drop = ((and-eq-true_iff (are_bits (take n rows)) (are_bits (drop n rows))).0 parts).1

pub are_bits-set : (rows : List ℕ) (i bit : ℕ) → are_bits rows ≡ true → bit < 2 → are_bits (set rows i bit) ≡ true
are_bits-set [] i bit bits h = refl
are_bits-set (row ∷ rows) zero bit bits h = rw (lt-ltb bit 2 h) (other_bits row rows bits)
are_bits-set (row ∷ rows) (suc i) bit bits h = rw (lt-ltb row 2 (first_bit row rows bits)) (are_bits-set rows i bit (other_bits row rows bits) h)

-- two numbers are bits exactly where the larger one is
both_bits : (x y : ℕ) (rest : Bool) → ltb x 2 && (ltb y 2 && rest) ≡ ltb (max x y) 2 && rest
both_bits x y rest = go (ltb x 2) (ltb y 2) refl refl
  where
    go : (s t : Bool) → ltb x 2 ≡ s → ltb y 2 ≡ t → s && (t && rest) ≡ ltb (max x y) 2 && rest
    go true true p q = rw (lt-ltb (max x y) 2 (omega (arith, ltb-true x 2 p, ltb-true y 2 q))) refl
    go true false p q = rw (le-ltb (max x y) 2 (omega (arith, ltb-false y 2 q))) refl
    go false t p q = rw (le-ltb (max x y) 2 (omega (arith, ltb-false x 2 p))) refl

-- the loop that keeps the largest row so far: a turn, and the end
pub largest_more : (rows : List ℕ) (largest i : ℕ) → i < length rows
    → ltb largest 2 && are_bits (drop i rows) ≡ ltb (max largest (get_or rows i 0)) 2 && are_bits (drop (i + 1) rows)
largest_more rows largest i h = rw (drop-cons rows i 0 h, add-one) (both_bits largest (get_or rows i 0) (are_bits (drop (suc i) rows)))

pub largest_all : (rows : List ℕ) (largest i : ℕ) → length rows ≤ i → ltb largest 2 && are_bits (drop i rows) ≡ ltb largest 2
largest_all rows largest i h = rw (drop_of_length-le rows h) (and-true (ltb largest 2))
