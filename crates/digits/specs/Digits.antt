-- Digits of lower-case hexadecimal. Bytes are ASCII.
use Rattle.std.specs.Prelude.{Bool, true, cond, ◌&&◌, List, [], ◌∷◌, ℕ, zero, suc, ◌+◌, ◌-◌, ◌*◌, ◌/◌, ◌%◌, ◌^◌, leb, ltb, Option, Some, None, is_some, unwrap_or}

-- what a byte counts for as a digit: `0` to `9`, `a` to `f`, and none for any other byte
unfoldable pub digit_of : ℕ → Option ℕ
digit_of byte = cond (leb 48 byte && leb byte 57) (Some (byte - 48)) (cond (leb 97 byte && leb byte 102) (Some (byte - 87)) None)

abbrev pub is_digit : ℕ → Bool
is_digit byte = is_some (digit_of byte)

abbrev pub are_digits : List ℕ → Bool
are_digits [] = true
are_digits (byte ∷ bytes) = is_digit byte && are_digits bytes

-- the number below 16 that a digit stands for; 0 for any other byte
abbrev pub digit_value : ℕ → ℕ
digit_value byte = unwrap_or (digit_of byte) 0

-- the number that some digits stand for, after the digits of another
abbrev pub number_from : ℕ → List ℕ → ℕ
number_from before [] = before
number_from before (digit ∷ digits) = number_from (before * 16 + digit_value digit) digits

abbrev pub number_in : List ℕ → ℕ
number_in digits = number_from 0 digits

-- the digit of a number below 16: `0` to `9`, then `a` to `f`
abbrev pub hex_digit : ℕ → ℕ
hex_digit number = cond (ltb number 10) (48 + number) (87 + number)

-- the last `count` digits of a number, the highest first
abbrev pub hex_digits : ℕ → ℕ → List ℕ
hex_digits zero number = []
hex_digits (suc count) number = hex_digit (number / 2 ^ (4 * count) % 16) ∷ hex_digits count number
