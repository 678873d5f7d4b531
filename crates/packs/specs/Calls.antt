-- Document 01, "What the calls do": Pack and Unpack for every input.
use Rattle.std.specs.Prelude.{not, List, [], ◌∷◌, ℕ, ltb, length}
use Rattle.answers.specs.Outcome.{Check, ◌when◌, Outcome, outcome}
use Rattle.answers.specs.declared.Refusal.TheVariants.{BadValue, Full, OutSmall, BadList}
use Rattle.groups.specs.Rows.{row_limit, are_bits}
use Rattle.words.specs.Words.{packed, unpacked, canonical}

-- when Pack refuses, the lowest number first
abbrev pub pack_checks : List ℕ → List ℕ → List Check
pack_checks rows out =
    BadValue when not (are_bits rows)
    ∷ Full when ltb row_limit (length rows)
    ∷ OutSmall when ltb (length out) (length (packed rows))
    ∷ []

-- Pack takes L bytes of 0 or 1 and writes their canonical list
unfoldable pub pack_outcome : List ℕ → List ℕ → Outcome
pack_outcome rows out = outcome (pack_checks rows out) (packed rows) out

-- when Unpack refuses, the lowest number first
abbrev pub unpack_checks : List ℕ → ℕ → List ℕ → List Check
unpack_checks list rows out =
    Full when ltb row_limit rows
    ∷ OutSmall when ltb (length out) rows
    ∷ BadList when not (canonical rows list)
    ∷ []

-- Unpack takes a whole list and L and writes the L bytes
unfoldable pub unpack_outcome : List ℕ → ℕ → List ℕ → Outcome
unpack_outcome list rows out = outcome (unpack_checks list rows out) (unpacked rows list) out
