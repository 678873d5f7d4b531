-- A row read in several values: in how many it is, the last of them, and the words opened. Assumes nothing.
use Rattle.std.specs.Prelude.{Some, Option, None}
use mathlib.Core.Path.{◌≡◌, refl}
use mathlib.Core.Bool.{Bool, true, false, cond}
use Prim.Native.Nat.{ℕ, zero, suc, ◌+◌, ◌*◌, ◌-◌, ◌/◌, ◌%◌, ◌^◌, ◌<◌, ◌≤◌}
use native.Mathlib.Nat.{suc-mul, mul-le-mul}
use native.Mathlib.Omega.{arith}
use lib.Dec.{eqb}
use borrow.Author.Tests.{eq-eqb, ne_eqb}
use Rattle.blocks.specs.Sizes.{update_room}
use Rattle.blocks.specs.Inner.{Limits}
use Rattle.blocks.specs.declared.sizes.Sizes.{Sizes}
use Rattle.block_read.specs.declared.read.Reading.{Reading}
use Rattle.block_read.proofs.Readings.{read_as, group_says}
use Rattle.memory.specs.Memory.{Memory, sizes_of, block_at}
use Rattle.memory.specs.Reading.{fence_for, read_in, row_step, read_row, row_of}
use Rattle.memory.specs.declared.header.Header.{Header}
use Rattle.memory.specs.declared.row.Row.{Row}

-- ---- one value more

module _ (row value : ℕ) (before : Row) (group opened : ℕ) where
  -- the row's bit of the group is 0
  pub step_clear : group / 2 ^ (30 - row % 31) % 2 ≡ 0
      → row_step row value before (read_as group opened)
      ≡ record { damaged = before.damaged; holders = before.holders; value = before.value; opened = before.opened + opened }
  step_clear e = rw (eq-eqb (group / 2 ^ (30 - row % 31) % 2) 0 e) refl

  -- or it is not
  pub step_set : (group / 2 ^ (30 - row % 31) % 2 ≡ 0 → ⊥)
      → row_step row value before (read_as group opened)
      ≡ record { damaged = before.damaged; holders = before.holders + 1; value = value; opened = before.opened + opened }
  step_set h = rw (ne_eqb (group / 2 ^ (30 - row % 31) % 2) 0 h) refl

-- what is said of a row that is read in the first `count` values, where one read opens at most `budget` words
pub record RowSays (budget count : ℕ) (row : Row) : Type 0 where
  pub few : row.holders ≤ count
  pub below : 0 < row.holders → row.value < count
  pub cheap : row.opened ≤ count * budget

module _ (budget count row : ℕ) (before : Row) (says : RowSays budget count before) where
  -- the value is no holder
  passed : (after : Row) → after.holders ≡ before.holders → after.value ≡ before.value → after.opened ≤ before.opened + budget
      → RowSays budget (suc count) after
  passed after h v o =
      record {
        few = omega (arith, says.few);
        below = λ some. omega (arith, says.below (rw h at some));
        cheap = omega (arith, says.cheap, suc-mul count budget);
      }

  -- it is the last holder
  taken : (after : Row) → after.holders ≡ before.holders + 1 → after.value ≡ count → after.opened ≤ before.opened + budget
      → RowSays budget (suc count) after
  taken after h v o =
      record { few = omega (arith, says.few); below = λ some. omega arith; cheap = omega (arith, says.cheap, suc-mul count budget) }

  step_says : (reading : Option Reading) → ((group opened : ℕ) → reading ≡ read_as group opened → opened ≤ budget)
      → RowSays budget (suc count) (row_step row count before reading)
  step_says None cheap = passed _ refl refl (omega arith)
  step_says (Some reading) cheap = go (eqb (reading.group / 2 ^ (30 - row % 31) % 2) 0)
    where
      go : (clear : Bool)
          → RowSays budget (suc count)
          (cond clear
          (record { damaged = before.damaged; holders = before.holders; value = before.value; opened = before.opened + reading.opened })
          (record { damaged = before.damaged; holders = before.holders + 1; value = count; opened = before.opened + reading.opened }))
      go true = passed _ refl refl (omega (arith, cheap reading.group reading.opened refl))
      go false = taken _ refl refl (omega (arith, cheap reading.group reading.opened refl))

-- ---- all values

-- G + 2T + 1: the most words that one value's read opens
abbrev pub read_budget : Sizes → ℕ
read_budget sizes = sizes.spacing + update_room sizes

module _ (sizes : Sizes) (memory : Memory) (row : ℕ) where
  -- THEOREM: what reading a row in the first values says
  pub row_says : (count : ℕ) → RowSays (read_budget sizes) count (read_row sizes memory row count)
  unfolding read_in
  row_says zero = record { few = omega arith; below = λ some. absurd (omega arith); cheap = omega arith }
  row_says (suc value) =
      step_says (read_budget sizes) value row (read_row sizes memory row value) (row_says value) (read_in sizes memory row value)
      (λ group opened e.
      (group_says sizes (block_at sizes memory.words value) (fence_for sizes memory row value) (row / 31) group opened e).few)

  -- what a further read asks: at most 63 values are read, and at most 767 words in each
  pub row_fits : Limits sizes → (count : ℕ) → count < 64
      → ((read_row sizes memory row count).holders < 64) × ((read_row sizes memory row count).opened ≤ 48321)
  row_fits limits count h =
      let says = row_says count in
      let fewer : count ≤ 63 = omega arith in
      let most : count * read_budget sizes ≤ 48321 = mul-le-mul {m₂ = 767} fewer (omega (arith, limits.few_spacing, limits.few_threshold)) in
      (omega (arith, says.few), omega (arith, says.cheap))

module _ (header : Header) (memory : Memory) (row : ℕ) where
  -- THEOREM: a row in all values opens at most d x (G + 2T + 1) words
  pub row_opened : (row_of header memory row).opened ≤ header.values * read_budget (sizes_of header)
  unfolding row_of
  row_opened = (row_says (sizes_of header) memory row header.values).cheap

  -- a row that is in a value is in one below d
  pub row-value : 0 < (row_of header memory row).holders → (row_of header memory row).value < header.values
  unfolding row_of
  row-value some = (row_says (sizes_of header) memory row header.values).below some
