-- Document 01, "Reading one bit": a row in every value, and its state.
use Rattle.std.specs.Prelude.{Option, Some, None, Bool, true, false, not, cond, ◌&&◌, ◌||◌, ℕ, zero, suc, ◌+◌, ◌*◌, ◌-◌, ◌/◌, ◌%◌, ◌^◌, ltb, eqb, get_or}
use Rattle.answers.specs.Numbers.{number_of}
use Rattle.answers.specs.declared.Refusal.{Refusal}
use Rattle.answers.specs.declared.Refusal.TheVariants.{Damaged}
use Rattle.blocks.specs.Sizes.{fence_count}
use Rattle.blocks.specs.declared.sizes.Sizes.{Sizes}
use Rattle.block_read.specs.Read.{read_group}
use Rattle.block_read.specs.declared.read.Reading.{Reading}
use Rattle.memory.specs.Fences.{no_fence}
use Rattle.memory.specs.Memory.{Memory, sizes_of, block_at}
use Rattle.memory.specs.declared.header.Header.{Header}
use Rattle.block_read.specs.declared.fence.Fence.{Fence}
use Rattle.memory.specs.declared.row.Row.{Row}
use Rattle.memory.specs.declared.row.State.{State}
use Rattle.memory.specs.declared.row.State.TheVariants.{Live, Deleted, Refused}
use Rattle.memory.specs.declared.row.Value.{Value}

-- fence g div G of the value, g being the row's group
unfoldable pub fence_for : Sizes → Memory → ℕ → ℕ → Fence
fence_for sizes memory row value = get_or memory.fences (value * fence_count sizes + row / 31 / sizes.spacing) no_fence

-- the row's group in V xor U of one value
unfoldable pub read_in : Sizes → Memory → ℕ → ℕ → Option Reading
read_in sizes memory row value = read_group sizes (fence_for sizes memory row value) (row / 31) (block_at sizes memory.words value)

-- no value is read
abbrev pub no_row : Row
no_row = record { damaged = false; holders = 0; value = 0; opened = 0 }

-- one value more: a bit of 1 makes it a holder, each word opened counts, and a broken read damages the row
abbrev pub row_step : ℕ → ℕ → Row → Option Reading → Row
row_step row value before (Some reading) =
    cond (eqb (reading.group / 2 ^ (30 - row % 31) % 2) 0)
    (record { damaged = before.damaged; holders = before.holders; value = before.value; opened = before.opened + reading.opened })
    (record { damaged = before.damaged; holders = before.holders + 1; value = value; opened = before.opened + reading.opened })
row_step row value before None = record { damaged = true; holders = before.holders; value = before.value; opened = before.opened }

-- the row in the first values: all are read, none is left out after a hit
abbrev pub read_row : Sizes → Memory → ℕ → ℕ → Row
read_row sizes memory row zero = no_row
read_row sizes memory row (suc value) = row_step row value (read_row sizes memory row value) (read_in sizes memory row value)

-- the row in all values
unfoldable pub row_of : Header → Memory → ℕ → Row
row_of header memory row = read_row (sizes_of header) memory row header.values

-- a read that fails, or two or more ones, are damage
abbrev pub is_damaged : Row → Bool
is_damaged row = row.damaged || ltb 1 row.holders

-- a row in no value is deleted
abbrev pub is_deleted : Row → Bool
is_deleted row = eqb row.holders 0

-- every read went well and none found a 1
abbrev pub is_free : Row → Bool
is_free row = not row.damaged && is_deleted row

-- a refusal opens no words
abbrev pub refused_value : Refusal → Value
refused_value refusal = record { state = Refused refusal; opened = 0 }

-- the row's state beside the words opened
unfoldable pub value_of : Row → Value
value_of row =
    cond (is_damaged row) (refused_value Damaged)
    (cond (is_deleted row) (record { state = Deleted; opened = row.opened }) (record { state = Live row.value; opened = row.opened }))

-- what the paper says of an answer of Value: its number; 1 for a live row; its value, 255 for deleted, 0 when refused; and the words opened
pub record ValuePaper : Type 0 where
  pub number : ℕ
  pub live : ℕ
  pub value : ℕ
  pub opened : ℕ

abbrev pub state_paper : State → ℕ → ValuePaper
state_paper (Live value) opened = record { number = 0; live = 1; value = value; opened = opened }
state_paper Deleted opened = record { number = 0; live = 0; value = 255; opened = opened }
state_paper (Refused refusal) opened = record { number = number_of refusal; live = 0; value = 0; opened = opened }

abbrev pub value_paper : Value → ValuePaper
value_paper value = state_paper value.state value.opened
