-- Document 01, "The printing program": what an input line says. Bytes are ASCII.
use Rattle.std.specs.Prelude.{Bool, cond, ◌&&◌, List, [], ◌∷◌, ℕ, ◌+◌, ◌-◌, ◌*◌, ◌%◌, leb, eqb, length, get_or, take, drop}
use Rattle.digits.specs.Digits.{are_digits, digit_value, number_in}

-- the column: 2 digits a row
abbrev pub column_in : List ℕ → List ℕ
column_in [] = []
column_in (high ∷ []) = []
column_in (high ∷ low ∷ digits) = (digit_value high * 16 + digit_value low) ∷ column_in digits

-- the line without its final newline, which may be missing
abbrev pub line_length : List ℕ → ℕ
line_length input = cond (eqb (get_or input (length input - 1) 0) 10) (length input - 1) (length input)

unfoldable pub line_in : List ℕ → List ℕ
line_in input = take (line_length input) input

-- R in 8 digits, d in 2, T in 2, G in 4, then 2 a row, at most 4,000 rows
unfoldable pub is_frame : List ℕ → Bool
is_frame line = leb 16 (length line) && leb (length line) 8016 && eqb (length line % 2) 0 && are_digits line

abbrev pub rows_in : List ℕ → ℕ
rows_in line = number_in (take 8 line)

abbrev pub values_in : List ℕ → ℕ
values_in line = number_in (take 2 (drop 8 line))

abbrev pub threshold_in : List ℕ → ℕ
threshold_in line = number_in (take 2 (drop 10 line))

abbrev pub spacing_in : List ℕ → ℕ
spacing_in line = number_in (take 4 (drop 12 line))
