-- Bytes that are changed and tested row by row: two changes one after the other, and bytes in two parts. Assumes nothing.
use mathlib.Core.Path.{◌≡◌, refl, ◌∙◌, ap, ap₂, sym}
use mathlib.Core.Bool.{Bool, true, false, ◌&&◌, true≢false, and_assoc, and-false, and-eq-true_iff}
use mathlib.Core.List.{List, [], ◌∷◌, ◌++◌}
use Prim.Native.Nat.{ℕ, zero, suc, ◌+◌, ◌<◌}
use native.Mathlib.Nat.{add-zero}
use native.Mathlib.Omega.{arith}
use lib.ListN.{length, get_or}
use Rattle.dump_marks.specs.Inner.{each_row, every_row}

-- the second and the third of four tests change places
and_swap : (a b c d : Bool) → (a && b) && (c && d) ≡ (a && c) && (b && d)
and_swap false b c d = refl
and_swap true true c d = refl
and_swap true false c d = rw and-false refl

-- the same row, counted from the next one on
row_on : (row i : ℕ) → row + suc i ≡ suc row + i
row_on row i = omega arith

-- ---- a change of each row

module _ (change : ℕ → ℕ → ℕ) where
  pub length_each : (row : ℕ) (bytes : List ℕ) → length (each_row change row bytes) ≡ length bytes
  length_each row [] = refl
  length_each row (byte ∷ bytes) = ap suc (length_each (suc row) bytes)

  pub get_or_each : (row : ℕ) (bytes : List ℕ) (i none : ℕ) → i < length bytes
      → get_or (each_row change row bytes) i none ≡ change (row + i) (get_or bytes i none)
  get_or_each row [] i none h = absurd (omega arith)
  get_or_each row (byte ∷ bytes) zero none h = rw add-zero refl
  get_or_each row (byte ∷ bytes) (suc i) none h = rw row_on (get_or_each (suc row) bytes i none (omega arith))

  pub each_append : (row : ℕ) (front back : List ℕ)
      → each_row change row (front ++ back) ≡ each_row change row front ++ each_row change (row + length front) back
  each_append row [] back = rw add-zero refl
  each_append row (byte ∷ front) back = rw (each_append (suc row) front back, row_on) refl

  -- bytes that it leaves
  pub each_keeps : (row : ℕ) (bytes : List ℕ) → ((i byte : ℕ) → i < length bytes → change (row + i) byte ≡ byte) → each_row change row bytes ≡ bytes
  each_keeps row [] same = refl
  each_keeps row (byte ∷ bytes) same =
      ap₂ ◌∷◌ (rw add-zero at (same 0 byte (omega arith)))
      (each_keeps (suc row) bytes (λ i other h. rw row_on at (same (suc i) other (omega arith))))

-- ---- a test of each row

module _ (test : ℕ → ℕ → Bool) where
  pub every_append : (row : ℕ) (front back : List ℕ)
      → every_row test row (front ++ back) ≡ every_row test row front && every_row test (row + length front) back
  every_append row [] back = rw add-zero refl
  every_append row (byte ∷ front) back = rw (every_append (suc row) front back, row_on, and_assoc) refl

  pub every_each : (row : ℕ) (bytes : List ℕ) → every_row test row bytes ≡ true → (i : ℕ) → i < length bytes → test (row + i) (get_or bytes i 0) ≡ true
  every_each row [] all i h = absurd (omega arith)
  every_each row (byte ∷ bytes) all zero h = rw add-zero ((and-eq-true_iff (test row byte) (every_row test (suc row) bytes)).0 all).0
  every_each row (byte ∷ bytes) all (suc i) h =
      rw row_on (every_each (suc row) bytes ((and-eq-true_iff (test row byte) (every_row test (suc row) bytes)).0 all).1 i (omega arith))

  pub each_every : (row : ℕ) (bytes : List ℕ) → ((i : ℕ) → i < length bytes → test (row + i) (get_or bytes i 0) ≡ true) → every_row test row bytes ≡ true
  each_every row [] each = refl
  each_every row (byte ∷ bytes) each =
      rw (rw add-zero at (each 0 (omega arith))) (each_every (suc row) bytes (λ i h. rw row_on at (each (suc i) (omega arith))))

  -- one row of which it does not hold
  pub every_fails : (row : ℕ) (bytes : List ℕ) (i : ℕ) → i < length bytes → test (row + i) (get_or bytes i 0) ≡ false → every_row test row bytes ≡ false
  every_fails row bytes i h fails = go (every_row test row bytes) refl
    where
      go : (t : Bool) → every_row test row bytes ≡ t → every_row test row bytes ≡ false
      go false e = e
      go true e = absurd (true≢false (sym (every_each row bytes e i h) ∙ fails))

-- ---- two changes and tests that agree, from one row on and from another

pub each_agrees : (change other : ℕ → ℕ → ℕ) (row from : ℕ) (bytes : List ℕ)
    → ((i byte : ℕ) → i < length bytes → change (row + i) byte ≡ other (from + i) byte) → each_row change row bytes ≡ each_row other from bytes
each_agrees change other row from [] same = refl
each_agrees change other row from (byte ∷ bytes) same =
    ap₂ ◌∷◌ (simp add-zero at (same 0 byte (omega arith)))
    (each_agrees change other (suc row) (suc from) bytes (λ i more h. simp row_on at (same (suc i) more (omega arith))))

pub every_agrees : (test other : ℕ → ℕ → Bool) (row from : ℕ) (bytes : List ℕ)
    → ((i byte : ℕ) → i < length bytes → test (row + i) byte ≡ other (from + i) byte) → every_row test row bytes ≡ every_row other from bytes
every_agrees test other row from [] same = refl
every_agrees test other row from (byte ∷ bytes) same =
    ap₂ ◌&&◌ (simp add-zero at (same 0 byte (omega arith)))
    (every_agrees test other (suc row) (suc from) bytes (λ i more h. simp row_on at (same (suc i) more (omega arith))))

-- ---- a change behind another

module _ (change next both : ℕ → ℕ → ℕ) (changes : (row byte : ℕ) → both row byte ≡ next row (change row byte)) where
  pub each_then : (row : ℕ) (bytes : List ℕ) → each_row both row bytes ≡ each_row next row (each_row change row bytes)
  each_then row [] = refl
  each_then row (byte ∷ bytes) = ap₂ ◌∷◌ (changes row byte) (each_then (suc row) bytes)

module _ (change : ℕ → ℕ → ℕ) (test next both : ℕ → ℕ → Bool) (tests : (row byte : ℕ) → both row byte ≡ test row byte && next row (change row byte)) where
  -- the second test is of what the change has left
  pub every_then : (row : ℕ) (bytes : List ℕ) → every_row both row bytes ≡ every_row test row bytes && every_row next row (each_row change row bytes)
  every_then row [] = refl
  every_then row (byte ∷ bytes) =
      ap₂ ◌&&◌ (tests row byte) (every_then (suc row) bytes)
      ∙ and_swap (test row byte) (next row (change row byte)) (every_row test (suc row) bytes) (every_row next (suc row) (each_row change (suc row) bytes))
