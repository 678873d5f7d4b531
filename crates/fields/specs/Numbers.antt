-- Numbers and words of a line, as the bytes of a field spell them.
use Rattle.std.specs.Prelude.{cond, ◌&&◌, List, [], ◌∷◌, ℕ, ◌+◌, ◌*◌, leb, ltb, eqb, length, Option, Some, None, option_and_then}
use Rattle.digits.specs.Digits.{digit_of, are_digits, number_in}

-- A number with one digit more, where that is a decimal digit and the number fits 32 bits.
unfoldable pub with_digit : ℕ → ℕ → Option ℕ
with_digit value digit = cond (ltb digit 10 && leb (value * 10 + digit) 4294967295) (Some (value * 10 + digit)) None

abbrev pub digit_after : Option ℕ → ℕ → Option ℕ
digit_after (Some value) byte = option_and_then (with_digit value) (digit_of byte)
digit_after None byte = None

-- The number that digits spell after those of another one.
abbrev pub decimal_from : Option ℕ → List ℕ → Option ℕ
decimal_from number [] = number
decimal_from number (byte ∷ bytes) = decimal_from (digit_after number byte) bytes

-- The decimal number that a field spells, which has at least one digit.
abbrev pub decimal_in : List ℕ → Option ℕ
decimal_in [] = None
decimal_in (byte ∷ bytes) = decimal_from (Some 0) (byte ∷ bytes)

-- A word is 8 hexadecimal digits.
unfoldable pub word_in : List ℕ → Option ℕ
word_in bytes = cond (eqb (length bytes) 8 && are_digits bytes) (Some (number_in bytes)) None
