-- Document 01, "The printing program": its example, and a line for each refusal that the program can give, as texts.
use Rattle.std.specs.Prelude.{◌≡◌, List, [], ◌∷◌, map, ℕ}
use Prim.Native.String.{String}
use Rattle.digits.specs.Ascii.{bytes}
use Rattle.print.specs.Printed.{printed}

infix 10 ◌prints◌
-- an input, and what is printed for it
pub data Case : Type 0 where
  ◌prints◌ : String → String → Case

abbrev pub computed : Case → List ℕ
computed (input prints output) = printed (bytes input)

abbrev pub stated : Case → List ℕ
stated (input prints output) = bytes output

-- the example, with its newline and without; no rows; BAD_HEADER, SMALL, BAD_VALUE, FULL; then BAD_FRAME: no input, no line, a second newline, half a row,
-- a capital letter, and a number too few
unfoldable pub cases : List Case
cases =
    ("0000003e020100010001ff00\n" prints "004800000080000001\n012000000080000001\n")
    ∷ ("0000003e020100010001ff00" prints "004800000080000001\n012000000080000001\n")
    ∷ ("0000003e02010001" prints "0080000002\n0180000002\n")
    ∷ ("0000003e0200000102" prints "ff01\n")
    ∷ ("0001f0000101000101" prints "ff02\n")
    ∷ ("00000001020100010002" prints "ff03\n")
    ∷ ("00000001020100010001" prints "ff05\n")
    ∷ ("" prints "ff0a\n")
    ∷ ("\n" prints "ff0a\n")
    ∷ ("0000003e020100010001ff00\n\n" prints "ff0a\n")
    ∷ ("0000003e020100010001ff0" prints "ff0a\n")
    ∷ ("0000003E020100010001ff00" prints "ff0a\n")
    ∷ ("0000003e0201" prints "ff0a\n")
    ∷ []

-- what is computed is what is stated, in every case
abbrev pub Printing : Type 0
Printing = map computed cases ≡ map stated cases
