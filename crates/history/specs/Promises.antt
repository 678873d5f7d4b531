-- Demand 3: what the code of each call gives back and leaves, and what it promises of that: the promise that stands at the call in index/src.
-- history/proofs/Contracts.antt shows that they are the same, CodeHistory.antt that what is promised is what `obey` says.
use Rattle.std.specs.Prelude.{Result, ◌≡◌, List, [], ◌∷◌, ℕ, ◌≤◌, length}
use Rattle.answers.specs.Numbers.{paper}
use Rattle.answers.specs.Outcome.{Gives}
use Rattle.block_read.specs.declared.fence.Fence.{Fence}
use Rattle.memory.specs.Memory.{memory_of}
use Rattle.memory.specs.Outcomes.{Leaves}
use Rattle.memory.specs.Reading.{value_paper}
use Rattle.memory.specs.declared.header.Changed.{Changed}
use Rattle.memory.specs.declared.row.Value.{Value as RowValue}
use Rattle.index.specs.Calls.{load_after, query_outcome, value_outcome, insert_after, update_after, delete_after, merge_after, dump_outcome, audit_outcome}
use Rattle.history.specs.Calls.{Call, Load, Query, Value, Insert, Update, Delete, Merge, Dump, Audit, Index, Reply, counted, finding, replied}
use Rattle.history.specs.Plain.{Plain, plainly, plain_loaded, plain_run}
use Rattle.history.specs.History.{opened_limit}
use Rattle.answers.specs.declared.Refusal.{Refusal}

-- an answer with a header, and the words and fences left
pub record Left : Type 0 where
  pub changed : Changed
  pub words : List ℕ
  pub fences : List Fence

-- an answer, and the output left
pub record Written : Type 0 where
  pub answer : Result ℕ Refusal
  pub out : List ℕ

-- what the code of each call gives back and leaves
abbrev pub Given : Call → Type 0
Given (Load rows values threshold spacing column) = Left
Given (Query value out) = Written
Given (Value row) = RowValue
Given (Insert value) = Left
Given (Update row value) = Left
Given (Delete row) = Left
Given (Merge value) = Left
Given (Dump out) = Written
Given Audit = Result ℕ Refusal

-- its promise, on an index
abbrev pub Promised : Index → (call : Call) → Given call → Type 0
Promised index (Load rows values threshold spacing column) given =
    Leaves (load_after rows values threshold spacing column index.memory) given.changed given.words given.fences
Promised index (Query value out) given = Gives (query_outcome index.header index.memory value out) given.answer given.out
Promised index (Value row) given = value_paper given ≡ value_outcome index.header index.memory row
Promised index (Insert value) given = Leaves (insert_after index.header index.memory value) given.changed given.words given.fences
Promised index (Update row value) given = Leaves (update_after index.header index.memory row value) given.changed given.words given.fences
Promised index (Delete row) given = Leaves (delete_after index.header index.memory row) given.changed given.words given.fences
Promised index (Merge value) given = Leaves (merge_after index.header index.memory value) given.changed given.words given.fences
Promised index (Dump out) given = Gives (dump_outcome index.header index.memory out) given.answer given.out
Promised index Audit given = paper given ≡ (audit_outcome index.header index.memory).answer

-- it in document 01's numbers
abbrev pub leaving : Left → Reply
leaving left =
    record {
      said = counted (paper left.changed.answer);
      opened = 0;
      output = [];
      header = left.changed.header;
      memory = memory_of left.words left.fences;
    }

abbrev pub giving : Index → Written → Reply
giving index written =
    record { said = counted (paper written.answer); opened = 0; output = written.out; header = index.header; memory = index.memory }

abbrev pub reply_of : Index → (call : Call) → Given call → Reply
reply_of index (Load rows values threshold spacing column) given = leaving given
reply_of index (Query value out) given = giving index given
reply_of index (Value row) given = finding index (value_paper given)
reply_of index (Insert value) given = leaving given
reply_of index (Update row value) given = leaving given
reply_of index (Delete row) given = leaving given
reply_of index (Merge value) given = leaving given
reply_of index (Dump out) given = giving index given
reply_of index Audit given = giving index (record { answer = given; out = [] })

-- ---- calls made one after another

-- a call that was made
pub record Made : Type 0 where
  pub call : Call
  pub given : Given call

-- it kept its promise
abbrev pub KeptOn : Index → Made → Type 0
KeptOn index made = Promised index made.call made.given

abbrev pub made_reply : Index → Made → Reply
made_reply index made = reply_of index made.call made.given

-- the index after several
abbrev pub made_run : Index → List Made → Index
made_run index [] = index
made_run index (made ∷ more) = made_run (replied index (made_reply index made)) more

-- each kept its promise on the memory that the one before it left, under the header of the last accepted call
abbrev pub AllKept : Index → List Made → Type 0
AllKept index [] = Unit
AllKept index (made ∷ more) = KeptOn index made × AllKept (replied index (made_reply index made)) more

-- the calls alone
abbrev pub calls_of : List Made → List Call
calls_of [] = []
calls_of (made ∷ more) = made.call ∷ calls_of more

-- a reply is that of the plain column, and few words are opened
pub record AsPlain (reply : Reply) (plain : Plain) (call : Call) : Type 0 where
  pub says : reply.said ≡ (plainly plain call).said
  pub writes : reply.output ≡ (plainly plain call).output
  pub opens : reply.opened ≤ opened_limit plain

-- THE HISTORY THEOREM of the code: after a load that kept its promise and was accepted, and any calls that kept theirs, a call that keeps its own
-- says and writes what the plain column does
abbrev pub CodeHistory : Type 0
CodeHistory =
    (index : Index) (rows values threshold spacing : ℕ) (column : List ℕ) (load : Left)
    → Promised index (Load rows values threshold spacing column) load
    → (paper load.changed.answer).number ≡ 0
    → (calls : List Made) → AllKept (replied index (leaving load)) calls
    → (next : Made) → KeptOn (made_run (replied index (leaving load)) calls) next
    → AsPlain (made_reply (made_run (replied index (leaving load)) calls) next)
    (plain_run (plain_loaded (length index.memory.words) (length index.memory.fences) rows values threshold spacing column) (calls_of calls))
    next.call
