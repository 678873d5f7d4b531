-- Demand 3: the plain column, a list of bytes made from the load and the later calls alone. It refuses over its own bytes, R and d; for a load over the
-- numbers of words and fences lent as well, for Query and Dump over the output's length.
use Rattle.std.specs.Prelude.{not, cond, true, false, List, [], ◌∷◌, ◌++◌, ℕ, leb, ltb, eqb, length, get_or, set}
use Rattle.answers.specs.Numbers.{number_of}
use Rattle.answers.specs.Outcome.{Check, ◌when◌, Outcome, outcome}
use Rattle.answers.specs.declared.Refusal.TheVariants.{BadHeader, Small, BadValue, NoRow, Full, Gone, OutSmall}
use Rattle.groups.specs.Rows.{groups_for, cut}
use Rattle.words.specs.Words.{encode}
use Rattle.load_list.specs.Column.{rows_with}
use Rattle.memory.specs.Memory.{limits, lent}
use Rattle.memory.specs.Entry.{valid_column}
use Rattle.memory.specs.declared.header.Header.{Header}
use Rattle.index.specs.Calls.{load_header}
use Rattle.history.specs.Calls.{Call, Load, Query, Value, Insert, Update, Delete, Merge, Dump, Audit, Said, counted}

-- the numbers of words and fences lent to the index beside it; the load's R, d, T and G, of which it uses R and d; and the bytes, one a row
pub record Plain : Type 0 where
  pub words : ℕ
  pub fences : ℕ
  pub rows : ℕ
  pub values : ℕ
  pub threshold : ℕ
  pub spacing : ℕ
  pub column : List ℕ

-- the header of an index over it
abbrev pub header_of : Plain → Header
header_of plain = load_header plain.rows plain.values plain.threshold plain.spacing plain.column

-- it with other bytes
abbrev pub with_column : Plain → List ℕ → Plain
with_column plain column =
    record {
      words = plain.words;
      fences = plain.fences;
      rows = plain.rows;
      values = plain.values;
      threshold = plain.threshold;
      spacing = plain.spacing;
      column = column;
    }

-- the byte of a row; past the last one, that of a deleted row
abbrev pub byte_at : List ℕ → ℕ → ℕ
byte_at column row = get_or column row 255

-- what it says and writes, and what it is then
pub record PlainReply : Type 0 where
  pub said : Said
  pub output : List ℕ
  pub next : Plain

-- a number alone
abbrev pub numbered : ℕ → Said
numbered number = record { number = number; count = 0; live = 0; value = 0 }

-- OK with a count, and the column becomes another
abbrev pub becoming : ℕ → Plain → PlainReply
becoming count next = record { said = counted (record { number = 0; count = count }); output = []; next = next }

-- the state that a byte stands for
abbrev pub state_of : ℕ → Said
state_of byte = cond (eqb byte 255) (record { number = 0; count = 0; live = 0; value = 255 }) (record { number = 0; count = 0; live = 1; value = byte })

-- an answer with an output leaves it as it was
abbrev pub writing : Plain → Outcome → PlainReply
writing plain outcome = record { said = counted outcome.answer; output = outcome.output; next = plain }

-- the first reason that applies refuses and changes nothing; where none applies, the reply
abbrev pub refusing : List Check → Plain → PlainReply → PlainReply
refusing [] plain reply = reply
refusing ((refusal when true) ∷ checks) plain reply = record { said = numbered (number_of refusal); output = []; next = plain }
refusing ((refusal when false) ∷ checks) plain reply = refusing checks plain reply

-- the canonical list of the rows that hold a value
unfoldable pub plain_list : Plain → ℕ → List ℕ
plain_list plain value = encode (cut (groups_for plain.rows) (rows_with value plain.column))

module _ (plain : Plain) where
  abbrev pub plain_bad_value : ℕ → Check
  plain_bad_value value = BadValue when leb plain.values value

  abbrev pub plain_no_row : ℕ → Check
  plain_no_row row = NoRow when leb (length plain.column) row

  abbrev pub plain_gone : ℕ → Check
  plain_gone row = Gone when eqb (byte_at plain.column row) 255

-- Load's, with so many words and fences lent
abbrev pub plain_load_checks : (words fences rows values threshold spacing : ℕ) → List ℕ → List Check
plain_load_checks words fences rows values threshold spacing column =
    BadHeader when not (limits rows values threshold spacing)
    ∷ Small when not (lent (load_header rows values threshold spacing column) words fences)
    ∷ BadValue when not (valid_column values column)
    ∷ Full when ltb rows (length column)
    ∷ []

-- the column of an accepted load
abbrev pub plain_loaded : (words fences rows values threshold spacing : ℕ) → List ℕ → Plain
plain_loaded words fences rows values threshold spacing column =
    record { words = words; fences = fences; rows = rows; values = values; threshold = threshold; spacing = spacing; column = column }

-- what each call does to it
abbrev pub plainly : Plain → Call → PlainReply
plainly plain (Load rows values threshold spacing column) =
    refusing (plain_load_checks plain.words plain.fences rows values threshold spacing column) plain
    (becoming 0 (plain_loaded plain.words plain.fences rows values threshold spacing column))
plainly plain (Query value out) =
    writing plain
    (outcome (plain_bad_value plain value ∷ OutSmall when ltb (length out) (length (plain_list plain value)) ∷ []) (plain_list plain value) out)
plainly plain (Value row) =
    refusing (plain_no_row plain row ∷ []) plain (record { said = state_of (byte_at plain.column row); output = []; next = plain })
plainly plain (Insert value) =
    refusing (plain_bad_value plain value ∷ Full when leb plain.rows (length plain.column) ∷ []) plain
    (becoming (length plain.column) (with_column plain (plain.column ++ value ∷ [])))
plainly plain (Update row value) =
    refusing (plain_bad_value plain value ∷ plain_no_row plain row ∷ plain_gone plain row ∷ []) plain
    (becoming 0 (with_column plain (set plain.column row value)))
plainly plain (Delete row) =
    refusing (plain_no_row plain row ∷ plain_gone plain row ∷ []) plain (becoming 0 (with_column plain (set plain.column row 255)))
plainly plain (Merge value) = refusing (plain_bad_value plain value ∷ []) plain (becoming 0 plain)
plainly plain (Dump out) = writing plain (outcome (OutSmall when ltb (length out) (length plain.column) ∷ []) plain.column out)
plainly plain Audit = becoming 0 plain

-- the column after several calls
abbrev pub plain_run : Plain → List Call → Plain
plain_run plain [] = plain
plain_run plain (call ∷ calls) = plain_run (plainly plain call).next calls
