-- Demand 3: the history theorem, as a type. history/proofs/Theorem.antt proves it.
use Rattle.std.specs.Prelude.{◌≡◌, true, cond, List, ℕ, ◌+◌, ◌*◌, ◌<◌, ◌≤◌, eqb, length}
use Rattle.groups.specs.Rows.{row_at}
use Rattle.memory.specs.Memory.{Memory, sizes_of, rows_in}
use Rattle.memory.specs.Outcomes.{After}
use Rattle.memory.specs.Entry.{valid_column}
use Rattle.index.specs.Soundness.{Sound}
use Rattle.index.specs.Calls.{load_after}
use Rattle.history.specs.Calls.{Call, Index, index_of, obey, step, run}
use Rattle.history.specs.Plain.{Plain, header_of, byte_at, plainly, plain_loaded, plain_run}

-- a row's bit in V xor U of a value
abbrev pub bit_of : Index → ℕ → ℕ → ℕ
bit_of index value row = row_at (rows_in (sizes_of index.header) index.memory.words value) row

-- G + 2T + 1 words for each of the d values
abbrev pub opened_limit : Plain → ℕ
opened_limit plain = plain.values * (plain.spacing + (2 * plain.threshold + 1))

-- the index is sound and has the column's numbers, and a row is in a value's list exactly where the column's byte is the value
pub record Agrees (index : Index) (plain : Plain) : Type 0 where
  pub header : index.header ≡ header_of plain
  pub words : length index.memory.words ≡ plain.words
  pub fences : length index.memory.fences ≡ plain.fences
  pub sound : Sound index.header index.memory
  pub bytes : valid_column plain.values plain.column ≡ true
  pub rows : (row value : ℕ) → value < plain.values → bit_of index value row ≡ cond (eqb (byte_at plain.column row) value) 1 0

-- the index that an accepted change gives
abbrev pub index_after : After → Index
index_after after = index_of after.header after.memory

-- one call: both say the same and write the same, few words are opened, and both agree again
pub record Good (index : Index) (plain : Plain) (call : Call) : Type 0 where
  pub says : (obey index call).said ≡ (plainly plain call).said
  pub writes : (obey index call).output ≡ (plainly plain call).output
  pub opens : (obey index call).opened ≤ opened_limit plain
  pub agrees : Agrees (step index call) (plainly plain call).next

-- what is said of an index beside its plain column after any accepted load, into any memory, and any list of calls
abbrev pub Always : (Index → Plain → Type 0) → Type 0
Always Holds =
    (rows values threshold spacing : ℕ) (column : List ℕ) (memory : Memory)
    → (load_after rows values threshold spacing column memory).answer.number ≡ 0
    → (calls : List Call)
    → Holds (run (index_after (load_after rows values threshold spacing column memory)) calls)
    (plain_run (plain_loaded (length memory.words) (length memory.fences) rows values threshold spacing column) calls)

-- THE HISTORY THEOREM: both agree, and every next call is good
abbrev pub AllGood : Index → Plain → Type 0
AllGood index plain = Agrees index plain × ((call : Call) → Good index plain call)

abbrev pub History : Type 0
History = Always AllGood
