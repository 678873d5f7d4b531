-- Laws of the numbers that digits spell.
use mathlib.Core.Path.{◌≡◌, refl, sym, ◌∙◌}
use mathlib.Core.Bool.{true, false}
use mathlib.Core.List.{List, [], ◌∷◌}
use Prim.Native.Nat.{ℕ, zero, suc, ◌+◌, ◌*◌, ◌<◌, ◌≤◌}
use native.Mathlib.Numerals.{add-one}
use native.Mathlib.Omega.{arith}
use lib.ListN.{length, get_or, drop}
use lib.Seq.{drop-cons}
use borrow.Author.Tests.{le-leb, lt-leb, lt-ltb, le-ltb, eq-eqb, ne_eqb}
use Rattle.std.specs.Prelude.{Some, None}
use Rattle.digits.specs.Digits.{are_digits, number_in}
use Rattle.fields.specs.Numbers.{with_digit, digit_after, decimal_from, decimal_in, word_in}

-- ---- one digit more

module _ (value digit : ℕ) where
  pub no_digit : 10 ≤ digit → None ≡ with_digit value digit
  unfolding with_digit
  no_digit high = rw (le-ltb digit 10 high) refl

  pub too_large : digit < 10 → 4294967295 < value * 10 + digit → None ≡ with_digit value digit
  unfolding with_digit
  too_large low large = rw (lt-ltb digit 10 low, lt-leb (value * 10 + digit) 4294967295 large) refl

  pub one_digit_more : digit < 10 → value * 10 + digit ≤ 4294967295 → Some (value * 10 + digit) ≡ with_digit value digit
  unfolding with_digit
  one_digit_more low fits = rw (lt-ltb digit 10 low, le-leb (value * 10 + digit) 4294967295 fits) refl

-- ---- a decimal number

never_a_number : (bytes : List ℕ) → decimal_from None bytes ≡ None
never_a_number [] = refl
never_a_number (byte ∷ bytes) = never_a_number bytes

pub no_digits : (bytes : List ℕ) → length bytes ≡ 0 → None ≡ decimal_in bytes
no_digits [] none = refl
no_digits (byte ∷ bytes) none = absurd (omega (arith, none))

pub from_zero : (bytes : List ℕ) → (length bytes ≡ 0 → ⊥) → decimal_from (Some 0) bytes ≡ decimal_in bytes
from_zero [] some = absurd (some refl)
from_zero (byte ∷ bytes) some = refl

-- All digits are read.
pub all_read : (value : ℕ) (bytes : List ℕ) (i : ℕ) → length bytes ≤ i → decimal_from (Some value) (drop i bytes) ≡ Some value
all_read value [] zero past = refl
all_read value [] (suc i) past = refl
all_read value (byte ∷ bytes) zero past = absurd (omega (arith, past))
all_read value (byte ∷ bytes) (suc i) past = all_read value bytes i (omega (arith, past))

module _ (value : ℕ) (bytes : List ℕ) (i : ℕ) (less : i < length bytes) (so_far : decimal_from (Some value) (drop i bytes) ≡ decimal_in bytes) where
  -- One byte is read.
  one_read : decimal_from (digit_after (Some value) (get_or bytes i 0)) (drop (i + 1) bytes) ≡ decimal_in bytes
  one_read = rw add-one (rw (drop-cons bytes i 0 less) at so_far)

  pub read_more : (next : ℕ) → digit_after (Some value) (get_or bytes i 0) ≡ Some next → decimal_from (Some next) (drop (i + 1) bytes) ≡ decimal_in bytes
  read_more next some = rw (← some) one_read

  -- A byte that is no digit, or one too many, ends the reading.
  pub read_none : digit_after (Some value) (get_or bytes i 0) ≡ None → None ≡ decimal_in bytes
  read_none none = sym (never_a_number (drop (i + 1) bytes)) ∙ rw (← none) one_read

-- ---- a word

module _ (bytes : List ℕ) where
  pub no_word : (length bytes ≡ 8 → ⊥) → None ≡ word_in bytes
  unfolding word_in
  no_word other = rw (ne_eqb (length bytes) 8 other) refl

  pub no_digit_word : length bytes ≡ 8 → are_digits bytes ≡ false → None ≡ word_in bytes
  unfolding word_in
  no_digit_word eight some = rw (eq-eqb (length bytes) 8 eight, some) refl

  pub a_word : length bytes ≡ 8 → are_digits bytes ≡ true → (number : ℕ) → number ≡ number_in bytes → Some number ≡ word_in bytes
  unfolding word_in
  a_word eight all number is = rw (eq-eqb (length bytes) 8 eight, all, is) refl
