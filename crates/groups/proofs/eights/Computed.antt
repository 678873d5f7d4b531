-- Eight rows at a time: gathering and spreading are right for all 256 kinds of eight rows, by one computed test each. Assumes nothing.
use mathlib.Core.Path.{◌≡◌, refl, ◌∙◌, ap, ap₂, sym}
use mathlib.Core.Bool.{Bool, true, ◌&&◌, and-eq-true_iff}
use mathlib.Core.List.{List, [], ◌∷◌}
use Prim.Native.Nat.{ℕ, zero, suc, ◌+◌, ◌*◌, ◌/◌, ◌%◌, ◌^◌, ◌<◌, ◌≤◌}
use native.Mathlib.Omega.{arith}
use native.Mathlib.Nat.{mod-eq_of_lt}
use lib.Bits.{bit_and}
use lib.Dec.{eqb}
use lib.ListN.{length, get_or, take, drop, length-drop}
use lib.Seq.{get_or-take, get_or-drop, length-take-le}
use borrow.Author.Tests.{eqb-true}
use Rattle.groups.specs.Rows.{are_bits, group_of, bits_of}
use Rattle.groups.specs.Inner.{four_bytes, bytes_of}
use Rattle.groups.proofs.Bits.{first_bit, other_bits, are_bits-take, are_bits-drop}
use Rattle.groups.proofs.Group.{are_bits-bits_of, group_of-bits_of, group_of-take}

-- a test passes for all lists of k rows
abbrev every_rows : ℕ → (List ℕ → Bool) → Bool
every_rows zero test = test []
every_rows (suc k) test = every_rows k (λ rows. test (0 ∷ rows)) && every_rows k (λ rows. test (1 ∷ rows))

halves : (k : ℕ) (test : List ℕ → Bool) → every_rows (suc k) test ≡ true
    → (every_rows k (λ rows. test (0 ∷ rows)) ≡ true) × (every_rows k (λ rows. test (1 ∷ rows)) ≡ true)
halves k test e = (and-eq-true_iff (every_rows k (λ rows. test (0 ∷ rows))) (every_rows k (λ rows. test (1 ∷ rows)))).0 e

passes : (k : ℕ) (test : List ℕ → Bool) → every_rows k test ≡ true → (rows : List ℕ) → are_bits rows ≡ true → length rows ≡ k → test rows ≡ true
passes zero test e [] bits l = e
passes zero test e (row ∷ rows) bits l = absurd (omega arith)
passes (suc k) test e [] bits l = absurd (omega arith)
passes (suc k) test e (zero ∷ rows) bits l = passes k (λ others. test (0 ∷ others)) (halves k test e).0 rows (other_bits 0 rows bits) (omega arith)
passes (suc k) test e (suc zero ∷ rows) bits l = passes k (λ others. test (1 ∷ others)) (halves k test e).1 rows (other_bits 1 rows bits) (omega arith)
passes (suc k) test e (suc (suc row) ∷ rows) bits l = absurd (omega (arith, first_bit (suc (suc row)) rows bits))

-- ---- gathering

-- what the code makes of eight bytes, given as twice four
abbrev gathered : ℕ → ℕ → ℕ
gathered first last = (first * 16 + last) * 0x08040201 / 2 ^ 24 % 256

gathers_right : List ℕ → Bool
gathers_right rows = eqb (gathered (four_bytes rows 0) (four_bytes rows 4)) (group_of 8 rows)

gathers_eight : (rows : List ℕ) → are_bits rows ≡ true → length rows ≡ 8 → gathered (four_bytes rows 0) (four_bytes rows 4) ≡ group_of 8 rows
unfolding gathers_right
gathers_eight rows bits l = eqb-true (gathered (four_bytes rows 0) (four_bytes rows 4)) (group_of 8 rows) (passes 8 gathers_right refl rows bits l)

module _ (rows : List ℕ) (at : ℕ) (bits : are_bits rows ≡ true) (fits : at + 8 ≤ length rows) where
  row_there : (i j : ℕ) → i < 8 → j ≡ at + i → get_or (take 8 (drop at rows)) i 0 ≡ get_or rows j 0
  row_there i j h e = rw e (get_or-take 8 (drop at rows) i 0 h ∙ get_or-drop at rows i 0)

  first_four : four_bytes (take 8 (drop at rows)) 0 ≡ four_bytes rows at
  first_four =
      rw (row_there 0 at (omega arith) (omega arith), row_there 1 (at + 1) (omega arith) refl, row_there 2 (at + 2) (omega arith) refl, row_there 3 (at + 3) (omega arith) refl)
      refl

  last-four : four_bytes (take 8 (drop at rows)) 4 ≡ four_bytes rows (at + 4)
  last-four =
      rw (row_there 4 (at + 4) (omega arith) refl, row_there 5 (at + 4 + 1) (omega arith) (omega arith), row_there 6 (at + 4 + 2) (omega arith) (omega arith), row_there 7 (at + 4 + 3) (omega arith) (omega arith))
      refl

  pub gathers : gathered (four_bytes rows at) (four_bytes rows (at + 4)) ≡ group_of 8 (drop at rows)
  gathers =
      ap₂ gathered (sym first_four) (sym last-four)
      ∙ gathers_eight (take 8 (drop at rows)) (are_bits-take 8 (drop at rows) (are_bits-drop at rows bits))
      (length-take-le 8 (drop at rows) (omega (arith, length-drop at rows)))
      ∙ group_of-take 8 8 (drop at rows) (omega arith)

-- ---- spreading

-- what the code makes of eight bits
abbrev spread_of : ℕ → ℕ
spread_of eight = bit_and ((eight * 0x0040201008040201 + bit_and eight 1 * 0x8000000000000000) / 2 ^ 7) 0x0101010101010101

-- the bytes of a number, the lowest first, are the given rows
abbrev bytes_are : ℕ → List ℕ → Bool
bytes_are number [] = true
bytes_are number (row ∷ rows) = eqb (number % 256) row && bytes_are (number / 256) rows

bytes_are_lem : (number : ℕ) (rows : List ℕ) → bytes_are number rows ≡ true → bytes_of (length rows) number ≡ rows
bytes_are_lem number [] e = refl
bytes_are_lem number (row ∷ rows) e =
    let both = (and-eq-true_iff (eqb (number % 256) row) (bytes_are (number / 256) rows)).0 e in
    ap₂ ◌∷◌ (eqb-true (number % 256) row both.0) (bytes_are_lem (number / 256) rows both.1)

spreads_right : List ℕ → Bool
spreads_right rows = bytes_are (spread_of (group_of 8 rows)) rows

spreads_eight : (rows : List ℕ) → are_bits rows ≡ true → length rows ≡ 8 → bytes_are (spread_of (group_of 8 rows)) rows ≡ true
unfolding spreads_right
spreads_eight rows bits l = passes 8 spreads_right refl rows bits l

pub spreads : (eight : ℕ) → eight < 256 → bytes_of 8 (spread_of eight) ≡ bits_of 8 eight
spreads eight small =
    ap (λ (n : ℕ). bytes_of 8 (spread_of n)) (sym (group_of-bits_of 8 eight ∙ mod-eq_of_lt small))
    ∙ bytes_are_lem (spread_of (group_of 8 (bits_of 8 eight))) (bits_of 8 eight) (spreads_eight (bits_of 8 eight) (are_bits-bits_of 8 eight) refl)
