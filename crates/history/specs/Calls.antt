-- Demand 3: the calls on an index, Load among them, and the index that obeys them, by the very functions that the calls' promises cite.
use Rattle.std.specs.Prelude.{List, [], ◌∷◌, ℕ, zero, suc}
use Rattle.answers.specs.Numbers.{Paper}
use Rattle.answers.specs.Outcome.{Outcome}
use Rattle.memory.specs.Memory.{Memory}
use Rattle.memory.specs.Outcomes.{After}
use Rattle.memory.specs.Reading.{ValuePaper}
use Rattle.memory.specs.declared.header.Header.{Header}
use Rattle.index.specs.Calls.{load_after, query_outcome, value_outcome, insert_after, update_after, delete_after, merge_after, dump_outcome, audit_outcome}

-- a call with its arguments: Load has R, d, T, G and the column; an output is lent with what it holds
pub data Call : Type 0 where
  Load : (rows values threshold spacing : ℕ) → List ℕ → Call
  Query : (value : ℕ) → List ℕ → Call
  Value : (row : ℕ) → Call
  Insert : (value : ℕ) → Call
  Update : (row value : ℕ) → Call
  Delete : (row : ℕ) → Call
  Merge : (value : ℕ) → Call
  Dump : List ℕ → Call
  Audit : Call

-- the header that the caller keeps, and the lent memory
pub record Index : Type 0 where
  pub header : Header
  pub memory : Memory

abbrev pub index_of : Header → Memory → Index
index_of header memory = record { header = header; memory = memory }

-- what a call says: document 01's number and the count; of a row, 1 if it is live, and its value or 255. What a call does not say is 0
pub record Said : Type 0 where
  pub number : ℕ
  pub count : ℕ
  pub live : ℕ
  pub value : ℕ

-- all that a call gives back and leaves
pub record Reply : Type 0 where
  pub said : Said
  pub opened : ℕ
  pub output : List ℕ
  pub header : Header
  pub memory : Memory

-- a number and a count
abbrev pub counted : Paper → Said
counted paper = record { number = paper.number; count = paper.count; live = 0; value = 0 }

-- the state of a row
abbrev pub row_said : ValuePaper → Said
row_said paper = record { number = paper.number; count = 0; live = paper.live; value = paper.value }

-- a change gives back a header and leaves a memory
abbrev pub changing : After → Reply
changing after = record { said = counted after.answer; opened = 0; output = []; header = after.header; memory = after.memory }

-- an answer leaves the index as it was
abbrev pub answering : Index → Outcome → Reply
answering index outcome =
    record { said = counted outcome.answer; opened = 0; output = outcome.output; header = index.header; memory = index.memory }

-- and so does Value, which opens words
abbrev pub finding : Index → ValuePaper → Reply
finding index paper = record { said = row_said paper; opened = paper.opened; output = []; header = index.header; memory = index.memory }

-- what each call gives back and leaves: the function that its promise cites
abbrev pub obey : Index → Call → Reply
obey index (Load rows values threshold spacing column) = changing (load_after rows values threshold spacing column index.memory)
obey index (Query value out) = answering index (query_outcome index.header index.memory value out)
obey index (Value row) = finding index (value_outcome index.header index.memory row)
obey index (Insert value) = changing (insert_after index.header index.memory value)
obey index (Update row value) = changing (update_after index.header index.memory row value)
obey index (Delete row) = changing (delete_after index.header index.memory row)
obey index (Merge value) = changing (merge_after index.header index.memory value)
obey index (Dump out) = answering index (dump_outcome index.header index.memory out)
obey index Audit = answering index (audit_outcome index.header index.memory)

-- by its number: the header that an accepted call gave, or the last one where the call was refused
abbrev pub last_accepted : ℕ → Header → Header → Header
last_accepted zero given last = given
last_accepted (suc number) given last = last

-- the index after a reply
unfoldable pub replied : Index → Reply → Index
replied index reply = index_of (last_accepted reply.said.number reply.header index.header) reply.memory

-- after a call
abbrev pub step : Index → Call → Index
step index call = replied index (obey index call)

-- and after several
abbrev pub run : Index → List Call → Index
run index [] = index
run index (call ∷ calls) = run (step index call) calls
