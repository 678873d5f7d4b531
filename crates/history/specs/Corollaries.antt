-- Demand 3: what follows from the history theorem. The first part holds always: of an index beside its plain column after any accepted load and any
-- calls. The second holds of any index. history/proofs/Corollaries.antt, QueryInRows.antt and Refused.antt prove it.
use Rattle.std.specs.Prelude.{◌≡◌, Bool, true, false, cond, ◌⊎◌, ◌↔◌, List, [], ℕ, ◌<◌, ◌≤◌, length, take}
use Rattle.answers.specs.Numbers.{number_of}
use Rattle.answers.specs.declared.Refusal.TheVariants.{BadHeader, Damaged}
use Rattle.groups.specs.Rows.{row_at}
use Rattle.words.specs.Words.{decode}
use Rattle.blocks.specs.Block.{value_list, update_list}
use Rattle.blocks.specs.Whole.{update_ones}
use Rattle.memory.specs.Entry.{no_header}
use Rattle.memory.specs.Memory.{Memory, sizes_of, block_at}
use Rattle.memory.specs.Reading.{row_of}
use Rattle.index.specs.Soundness.{FencesRight}
use Rattle.history.specs.Calls.{Call, Load, Query, Value, Insert, Update, Delete, Merge, Dump, Audit, Index, index_of, obey, step}
use Rattle.history.specs.Plain.{Plain, byte_at}
use Rattle.history.specs.History.{bit_of, opened_limit}

-- ---- always

-- no call reports damage
abbrev pub NoDamage : Index → Plain → Type 0
NoDamage index plain = (call : Call) → (obey index call).said.number ≡ number_of Damaged → ⊥

-- no update list has more than T ones
abbrev pub FewOnes : Index → Plain → Type 0
FewOnes index plain =
    (value : ℕ) → value < plain.values
    → update_ones (sizes_of index.header) (block_at (sizes_of index.header) index.memory.words value) ≤ plain.threshold

-- every fence leads to its word
abbrev pub FencesLead : Index → Plain → Type 0
FencesLead index plain = (value : ℕ) → value < plain.values → FencesRight (sizes_of index.header) index.memory value

-- a row is in the list of one value and in no other
abbrev pub InOneValue : Index → Plain → ℕ → ℕ → Type 0
InOneValue index plain value row =
    (value < plain.values) × (bit_of index value row ≡ 1)
    × ((other : ℕ) → other < plain.values → (value ≡ other → ⊥) → bit_of index other row ≡ 0)

-- or in none
abbrev pub InNoValue : Index → Plain → ℕ → Type 0
InNoValue index plain row = (value : ℕ) → value < plain.values → bit_of index value row ≡ 0

-- every row has the column's value: a live row is in that value's list alone, a deleted row in none
abbrev pub OneValueARow : Index → Plain → Type 0
OneValueARow index plain =
    (row : ℕ) → row < length plain.column
    → InOneValue index plain (byte_at plain.column row) row ⊎ ((byte_at plain.column row ≡ 255) × InNoValue index plain row)

-- Value opens at most d x (G + 2T + 1) words; for a row that was issued it reports those that the walks in all values opened, when refused none
pub record Opens (index : Index) (plain : Plain) (row : ℕ) : Type 0 where
  pub few : (obey index (Value row)).opened ≤ opened_limit plain
  pub counts : row < length plain.column → (obey index (Value row)).opened ≡ (row_of index.header index.memory row).opened
  pub none : ((obey index (Value row)).said.number ≡ 0 → ⊥) → (obey index (Value row)).opened ≡ 0

abbrev pub OpenedFew : Index → Plain → Type 0
OpenedFew index plain = (row : ℕ) → Opens index plain row

-- a row is in the list that a Query wrote
abbrev pub InQuery : Index → ℕ → List ℕ → ℕ → Type 0
InQuery index value out row =
    row_at (decode (take (obey index (Query value out)).said.count (obey index (Query value out)).output)) row ≡ 1

-- a row is in an accepted Query's list exactly when the column's byte is the value
abbrev pub QueryRows : Index → Plain → Type 0
QueryRows index plain =
    (value : ℕ) (out : List ℕ) → (obey index (Query value out)).said.number ≡ 0
    → (row : ℕ) → InQuery index value out row ↔ (byte_at plain.column row ≡ value)

-- ---- whatever the index

-- a row's bits in V and in U of a value differ
abbrev pub Differ : Index → ℕ → ℕ → Type 0
Differ index value row =
    row_at (decode (value_list (sizes_of index.header) (block_at (sizes_of index.header) index.memory.words value))) row
    ≡ row_at (decode (update_list (sizes_of index.header) (block_at (sizes_of index.header) index.memory.words value))) row
    → ⊥

-- demand 2: a row is in an accepted Query's list exactly when its bits in V and U differ
abbrev pub QueryDiffers : Type 0
QueryDiffers =
    (index : Index) (value : ℕ) (out : List ℕ) → (obey index (Query value out)).said.number ≡ 0
    → (row : ℕ) → InQuery index value out row ↔ Differ index value row

-- the output that a call is lent
abbrev pub output_of : Call → List ℕ
output_of (Load rows values threshold spacing column) = []
output_of (Query value out) = out
output_of (Value row) = []
output_of (Insert value) = []
output_of (Update row value) = []
output_of (Delete row) = []
output_of (Merge value) = []
output_of (Dump out) = out
output_of Audit = []

-- Load alone takes no header
abbrev pub is_load : Call → Bool
is_load (Load rows values threshold spacing column) = true
is_load (Query value out) = false
is_load (Value row) = false
is_load (Insert value) = false
is_load (Update row value) = false
is_load (Delete row) = false
is_load (Merge value) = false
is_load (Dump out) = false
is_load Audit = false

-- a refused call leaves the index, the memory and the output as they were, and gives back the header that it got; a refused Load gives one of zeros
pub record Unchanged (index : Index) (call : Call) : Type 0 where
  pub index_stays : step index call ≡ index
  pub memory_stays : (obey index call).memory ≡ index.memory
  pub output_stays : (obey index call).output ≡ output_of call
  pub gives_back : (obey index call).header ≡ cond (is_load call) no_header index.header

abbrev pub RefusedUnchanged : Type 0
RefusedUnchanged = (index : Index) (call : Call) → ((obey index call).said.number ≡ 0 → ⊥) → Unchanged index call

-- which every call on an index refuses
abbrev pub ZerosRefused : Type 0
ZerosRefused = (memory : Memory) (call : Call) → is_load call ≡ false → (obey (index_of no_header memory) call).said.number ≡ number_of BadHeader
