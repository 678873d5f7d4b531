-- Laws of digits: what they stand for, and how those of a number are written. Assumes nothing.
use mathlib.Core.Path.{◌≡◌, refl, ◌∙◌, sym, ap}
use mathlib.Core.Bool.{false, ◌&&◌}
use mathlib.Core.List.{List}
use Prim.Native.Nat.{ℕ, zero, suc, ◌+◌, ◌-◌, ◌*◌, ◌/◌, ◌%◌, ◌^◌, ◌<◌, ◌≤◌}
use native.Mathlib.Nat.{pow-suc}
use native.Mathlib.Numerals.{add-one}
use native.Mathlib.Omega.{arith}
use Rattle.std.proofs.Math.Nat.{pow-le-pow_right}
use lib.ListN.{length, get_or, set, drop}
use lib.Seq.{sets, drop-cons}
use borrow.Author.Tests.{le-leb, lt-leb}
use Rattle.std.specs.Prelude.{Some, None}
use Rattle.digits.specs.Digits.{digit_of, is_digit, are_digits, digit_value, number_from, hex_digit, hex_digits}

-- ---- one byte, in each range

module _ (byte : ℕ) where
  pub below_digits : byte < 48 → None ≡ digit_of byte
  unfolding digit_of
  below_digits low = rw (lt-leb 48 byte low, lt-leb 97 byte (omega arith)) refl

  pub decimal_digit : 48 ≤ byte → byte ≤ 57 → Some (byte - 48) ≡ digit_of byte
  unfolding digit_of
  decimal_digit low high = rw (le-leb 48 byte low, le-leb byte 57 high) refl

  pub between_digits : 57 < byte → byte < 97 → None ≡ digit_of byte
  unfolding digit_of
  between_digits low high = rw (le-leb 48 byte (omega arith), lt-leb byte 57 low, lt-leb 97 byte high) refl

  pub letter_digit : 97 ≤ byte → byte ≤ 102 → Some (byte - 87) ≡ digit_of byte
  unfolding digit_of
  letter_digit low high = rw (le-leb 48 byte (omega arith), lt-leb byte 57 (omega arith), le-leb 97 byte low, le-leb byte 102 high) refl

  pub above_digits : 102 < byte → None ≡ digit_of byte
  unfolding digit_of
  above_digits high = rw (le-leb 48 byte (omega arith), lt-leb byte 57 (omega arith), le-leb 97 byte (omega arith), lt-leb byte 102 high) refl

-- a digit stands for a number below 16, and so does a byte that is none
pub digit_small : (byte : ℕ) → digit_value byte < 16
unfolding digit_of
digit_small byte = grind arith

-- ---- one byte more of some

module _ (bytes : List ℕ) (i : ℕ) (h : i < length bytes) where
  next_digit : are_digits (drop i bytes) ≡ (is_digit (get_or bytes i 0) && are_digits (drop (i + 1) bytes))
  next_digit = rw (add-one, drop-cons bytes i 0 h) refl

  pub digit_passes : (digit : ℕ) → digit_of (get_or bytes i 0) ≡ Some digit → are_digits (drop (i + 1) bytes) ≡ are_digits (drop i bytes)
  digit_passes digit some = sym (next_digit ∙ rw some refl)

  pub digit_stops : digit_of (get_or bytes i 0) ≡ None → false ≡ are_digits (drop i bytes)
  digit_stops none = sym (next_digit ∙ rw none refl)

  pub digit_joins : (number : ℕ) → number_from (number * 16 + digit_value (get_or bytes i 0)) (drop (i + 1) bytes) ≡ number_from number (drop i bytes)
  digit_joins number = rw (add-one, drop-cons bytes i 0 h) refl

-- a number of fewer than 8 digits
pub number_small : (number i : ℕ) → number < 16 ^ i → i < 8 → number < 2 ^ 28
number_small number i below few = omega (arith, below, pow-le-pow_right {n = 16} (omega arith) {i = i} {j = 7} (omega arith))

pub number_grows : (number i byte : ℕ) → number < 16 ^ i → number * 16 + digit_value byte < 16 ^ (i + 1)
number_grows number i byte h = rw (add-one, pow-suc) (omega (arith, digit_small byte))

-- ---- the digits of a number

pub length_digits : (count number : ℕ) → length (hex_digits count number) ≡ count
length_digits zero number = refl
length_digits (suc count) number = ap suc (length_digits count number)

-- one digit more is written
pub digit_put : (out : List ℕ) (at i count number : ℕ) → i < count
    → sets (set out (at + i) (hex_digit (number / 2 ^ (4 * (count - 1 - i)) % 16))) (at + (i + 1)) (hex_digits (count - (i + 1)) number) ≡ sets out (at + i) (hex_digits (count - i) number)
digit_put out at i count number h =
    let left : count - i ≡ suc (count - (i + 1)) = omega arith in
    let last : count - 1 - i ≡ count - (i + 1) = omega arith in
    let next : at + (i + 1) ≡ suc (at + i) = omega arith in
    rw (left, last, next) refl
