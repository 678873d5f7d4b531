-- Columns of values and deleted rows: byte by byte, with a byte more, and with another byte. Assumes nothing.
use mathlib.Core.Path.{◌≡◌, refl, ◌∙◌, sym}
use mathlib.Core.Bool.{Bool, true, false, and-eq-true_iff, ◌||◌}
use mathlib.Core.Logic.{◌⊎◌, inl, inr, by_cases}
use mathlib.Core.List.{List, [], ◌∷◌, ◌++◌}
use Prim.Native.Nat.{ℕ, zero, suc, ◌<◌, ◌≤◌}
use native.Mathlib.Decide.{dec_lt}
use native.Mathlib.Omega.{arith}
use lib.Dec.{ltb, eqb}
use lib.ListN.{length, get_or, set, length-append, get_or-append, get_or-eq_default}
use lib.Seq.{get_or-append_seam}
use borrow.Author.Tests.{ltb-true, lt-ltb, eqb-true}
use Rattle.memory.specs.Entry.{valid_byte, valid_column}
use Rattle.history.specs.Plain.{byte_at}

module _ (values : ℕ) where
  parts : (byte : ℕ) (column : List ℕ) → valid_column values (byte ∷ column) ≡ true → (valid_byte values byte ≡ true) × (valid_column values column ≡ true)
  parts byte column e = (and-eq-true_iff (valid_byte values byte) (valid_column values column)).0 e

  -- a value is valid
  pub valid_value : (byte : ℕ) → byte < values → valid_byte values byte ≡ true
  valid_value byte h = rw (lt-ltb byte values h) refl

  -- and so is the byte of a deleted row
  pub valid_deleted : valid_byte values 255 ≡ true
  valid_deleted = go (ltb 255 values)
    where
      go : (small : Bool) → (small || true) ≡ true
      go true = refl
      go false = refl

  -- the byte of each row is a value or that of a deleted row
  pub value-or_deleted : (column : List ℕ) → valid_column values column ≡ true
      → (row : ℕ) → row < length column → (byte_at column row < values) ⊎ (byte_at column row ≡ 255)
  value-or_deleted [] e row h = absurd (omega arith)
  value-or_deleted (byte ∷ column) e zero h = go (ltb byte values) refl (parts byte column e).0
    where
      go : (small : Bool) → ltb byte values ≡ small → (small || eqb byte 255) ≡ true → (byte < values) ⊎ (byte ≡ 255)
      go true small valid = inl (ltb-true byte values small)
      go false large valid = inr (eqb-true byte 255 valid)
  value-or_deleted (byte ∷ column) e (suc row) h = value-or_deleted column (parts byte column e).1 row (omega arith)

  -- with a valid byte at the end, or put somewhere, a column is valid again
  pub valid_append : (column : List ℕ) (byte : ℕ) → valid_column values column ≡ true → valid_byte values byte ≡ true
      → valid_column values (column ++ byte ∷ []) ≡ true
  valid_append [] byte e valid = rw valid refl
  valid_append (first ∷ column) byte e valid = rw ((parts first column e).0, valid_append column byte (parts first column e).1 valid) refl

  pub valid_set : (column : List ℕ) (row byte : ℕ) → valid_column values column ≡ true → valid_byte values byte ≡ true
      → valid_column values (set column row byte) ≡ true
  valid_set [] row byte e valid = refl
  valid_set (first ∷ column) zero byte e valid = rw (valid, (parts first column e).1) refl
  valid_set (first ∷ column) (suc row) byte e valid = rw ((parts first column e).0, valid_set column row byte (parts first column e).1 valid) refl

-- ---- the byte of each row

-- a byte that is there does not depend on what stands for those that are not
pub byte_there : (column : List ℕ) (row : ℕ) → row < length column → get_or column row 0 ≡ byte_at column row
byte_there [] row h = absurd (omega arith)
byte_there (byte ∷ column) zero h = refl
byte_there (byte ∷ column) (suc row) h = byte_there column row (omega arith)

-- past the last row
pub byte_past : (column : List ℕ) (row : ℕ) → length column ≤ row → byte_at column row ≡ 255
byte_past column row h = get_or-eq_default column 255 h

module _ (column : List ℕ) (byte : ℕ) where
  -- with a byte more
  pub byte_appended : byte_at (column ++ byte ∷ []) (length column) ≡ byte
  byte_appended = get_or-append_seam column byte [] 255

  pub byte_elsewhere : (row : ℕ) → (row ≡ length column → ⊥) → byte_at (column ++ byte ∷ []) row ≡ byte_at column row
  byte_elsewhere row differ =
      by_cases (dec_lt row (length column))
      (λ there. get_or-append column (byte ∷ []) 255 row there)
      (λ past.
      byte_past (column ++ byte ∷ []) row (rw (length-append column (byte ∷ [])) (omega (arith, past, differ)))
      ∙ sym (byte_past column row (omega (arith, past))))
