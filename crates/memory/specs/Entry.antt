-- Document 01, "Numbers a caller can get back": what calls on an index ask first, and the headers that changes give back.
use Rattle.std.specs.Prelude.{Bool, true, not, ◌&&◌, ◌||◌, List, [], ◌∷◌, ℕ, ◌+◌, leb, ltb, eqb}
use Rattle.answers.specs.Outcome.{Check, ◌when◌}
use Rattle.answers.specs.declared.Refusal.TheVariants.{BadHeader, Small, BadValue, NoRow, Full}
use Rattle.memory.specs.Memory.{within_limits, lent}
use Rattle.memory.specs.declared.header.Header.{Header}

-- a header number is outside its limits
abbrev pub bad_header : Header → Check
bad_header header = BadHeader when not (within_limits header)

-- fewer than d x B words or d x F fences lent
abbrev pub small : Header → ℕ → ℕ → Check
small header words fences = Small when not (lent header words fences)

-- value not below d
abbrev pub bad_value : Header → ℕ → Check
bad_value header value = BadValue when leb header.values value

-- row not below n
abbrev pub missing : Header → ℕ → Check
missing header row = NoRow when leb header.issued row

-- n = R
abbrev pub full : Header → Check
full header = Full when leb header.rows header.issued

-- bytes 0 to d - 1 are values, 255 is a deleted row
abbrev pub valid_byte : ℕ → ℕ → Bool
valid_byte values byte = ltb byte values || eqb byte 255

abbrev pub valid_column : ℕ → List ℕ → Bool
valid_column values [] = true
valid_column values (byte ∷ column) = valid_byte values byte && valid_column values column

-- R, n, d, T and G
abbrev pub header_for : ℕ → ℕ → ℕ → ℕ → ℕ → Header
header_for rows issued values threshold spacing =
    record { rows = rows; issued = issued; values = values; threshold = threshold; spacing = spacing }

-- the header of zeros, which no call on an index accepts
abbrev pub no_header : Header
no_header = header_for 0 0 0 0 0

-- one row more is issued
abbrev pub grown : Header → Header
grown header =
    record {
      rows = header.rows;
      issued = header.issued + 1;
      values = header.values;
      threshold = header.threshold;
      spacing = header.spacing;
    }
