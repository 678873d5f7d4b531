-- Document 01, "The printing program": how numbers, lists and refusals are printed. Bytes are ASCII.
use Rattle.std.specs.Prelude.{List, [], ◌∷◌, ◌++◌, ℕ}
use Rattle.digits.specs.Digits.{hex_digits}

-- each word in 8 digits
abbrev pub hex_words : List ℕ → List ℕ
hex_words [] = []
hex_words (word ∷ words) = hex_digits 8 word ++ hex_words words

abbrev pub newline : List ℕ
newline = 10 ∷ []

-- the value in 2 digits, then each word of its Query in 8
unfoldable pub value_line : ℕ → List ℕ → List ℕ
value_line value list = hex_digits 2 value ++ (hex_words list ++ newline)

-- `ff` and the number in 2 digits
unfoldable pub refusal_line : ℕ → List ℕ
refusal_line number = hex_digits 2 255 ++ (hex_digits 2 number ++ newline)
