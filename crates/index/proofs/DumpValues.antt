-- Dump's loop over the values, row by row: a row's byte tells what reading the row in the first values says. Assumes nothing.
use Rattle.std.specs.Prelude.{Some, Option, None}
use mathlib.Core.Path.{◌≡◌, refl, ◌∙◌, ap, ap₂, sym}
use mathlib.Core.Bool.{Bool, true, false, not, cond, ◌&&◌, ◌||◌, and-true, and-false, false≢true}
use mathlib.Core.List.{List}
use Prim.Native.Nat.{ℕ, zero, suc, ◌+◌, ◌-◌, ◌/◌, ◌%◌, ◌^◌, ◌<◌, ◌≤◌}
use native.Mathlib.Omega.{arith}
use lib.Dec.{eqb, ltb}
use borrow.Author.Tests.{lt-ltb, ne_eqb}
use Rattle.dump_marks.specs.Inner.{each_row, every_row, free_in_reading, marked_in_reading}
use Rattle.block_read.specs.declared.read.Reading.{Reading}
use Rattle.dump_marks.proofs.EachRow.{each_keeps, each_then, each_every, every_then}
use Rattle.memory.specs.Memory.{Memory, sizes_of}
use Rattle.memory.specs.Reading.{read_in, row_step, read_row, is_damaged, is_deleted}
use Rattle.dump_spans.specs.Inner.{marked_values, values_hold}
use Rattle.memory.specs.declared.header.Header.{Header}
use Rattle.memory.specs.declared.row.Row.{Row}
use Rattle.index.proofs.DumpFences.{issued_free, issued_marked, value_marked, value_holds}
use Rattle.memory.proofs.RowLaws.{row_says}

-- ---- one row, value by value

module _ (header : Header) (memory : Memory) (row : ℕ) where
  -- its byte behind the first values, and whether none of them met another
  abbrev pub row_byte : ℕ → ℕ → ℕ
  row_byte byte zero = byte
  row_byte byte (suc value) = marked_in_reading (read_in (sizes_of header) memory row value) value row (row_byte byte value)

  abbrev pub row_free : ℕ → ℕ → Bool
  row_free byte zero = true
  row_free byte (suc value) = row_free byte value && free_in_reading (read_in (sizes_of header) memory row value) row (row_byte byte value)

-- what a byte that was 255 tells of its row, read in the first values
pub record Tells (free : Bool) (byte : ℕ) (row : Row) : Type 0 where
  pub whole : free ≡ not (is_damaged row)
  pub written : free ≡ true → byte ≡ cond (is_deleted row) 255 row.value

-- one holder more
holder_more : (free damaged : Bool) (byte holders last : ℕ) → free ≡ not (damaged || ltb 1 holders)
    → (free ≡ true → byte ≡ cond (eqb holders 0) 255 last) → (0 < holders → last < 255) → free && eqb byte 255 ≡ not (damaged || ltb 1 (holders + 1))
holder_more free true byte holders last whole written below = rw whole refl
holder_more free false byte zero last whole written below = rw (written whole, whole) refl
holder_more free false byte (suc zero) last whole written below =
    rw (written whole, whole, ne_eqb last 255 (λ e. omega (arith, below (omega arith), e))) refl
holder_more free false byte (suc (suc holders)) last whole written below =
    rw (whole, lt-ltb 1 (suc (suc holders)) (omega arith), lt-ltb 1 (suc (suc holders) + 1) (omega arith)) refl

module _ (row value : ℕ) (free : Bool) (byte : ℕ) (before : Row) (tells : Tells free byte before)
    (below : 0 < before.holders → before.value < value) (few : value < 255) where
  -- the value has the row
  has_row : (opened : ℕ)
      → Tells (free && eqb byte 255) value
      (record { damaged = before.damaged; holders = before.holders + 1; value = value; opened = opened })
  has_row opened =
      record {
        whole = holder_more free before.damaged byte before.holders before.value tells.whole tells.written (λ some. omega (arith, below some));
        written = λ yes. rw (ne_eqb (before.holders + 1) 0 (omega arith)) refl;
      }

  tells_step : (reading : Option Reading)
      → Tells (free && free_in_reading reading row byte) (marked_in_reading reading value row byte) (row_step row value before reading)
  tells_step None = record { whole = and-false free; written = λ yes. absurd (false≢true (sym (and-false free) ∙ yes)) }
  tells_step (Some reading) = go (eqb (reading.group / 2 ^ (30 - row % 31) % 2) 0)
    where
      go : (clear : Bool)
          → Tells (free && (clear || eqb byte 255)) (cond clear byte value)
          (cond clear
          (record { damaged = before.damaged; holders = before.holders; value = before.value; opened = before.opened + reading.opened })
          (record { damaged = before.damaged; holders = before.holders + 1; value = value; opened = before.opened + reading.opened }))
      go true = record { whole = and-true free ∙ tells.whole; written = λ yes. tells.written (sym (and-true free) ∙ yes) }
      go false = has_row (before.opened + reading.opened)

module _ (header : Header) (memory : Memory) where
  -- behind the first values, a row's byte tells what reading it in them says
  pub row_tells : (row value : ℕ) → value < 255 → Tells (row_free header memory row 255 value) (row_byte header memory row 255 value) (read_row (sizes_of header) memory row value)
  row_tells row zero few = record { whole = refl; written = λ yes. refl }
  row_tells row (suc value) few =
      tells_step row value (row_free header memory row 255 value) (row_byte header memory row 255 value) (read_row (sizes_of header) memory row value)
      (row_tells row value (omega arith)) (row_says (sizes_of header) memory row value).below (omega arith) (read_in (sizes_of header) memory row value)

  -- ---- all rows, value by value

  -- what the first values say of a row below n, and make of its byte
  abbrev pub all_free : ℕ → ℕ → ℕ → Bool
  all_free value row byte = cond (ltb row header.issued) (row_free header memory row byte value) true

  abbrev pub all_marked : ℕ → ℕ → ℕ → ℕ
  all_marked value row byte = cond (ltb row header.issued) (row_byte header memory row byte value) byte

  next-value : (value row byte : ℕ)
      → (all_marked (suc value) row byte ≡ issued_marked header memory value row (all_marked value row byte))
      × (all_free (suc value) row byte ≡ all_free value row byte && issued_free header memory value row (all_marked value row byte))
  next-value value row byte = go (ltb row header.issued)
    where
      go : (issued : Bool)
          → (cond issued (row_byte header memory row byte (suc value)) byte
          ≡ cond issued (marked_in_reading (read_in (sizes_of header) memory row value) value row (cond issued (row_byte header memory row byte value) byte))
          (cond issued (row_byte header memory row byte value) byte))
          × (cond issued (row_free header memory row byte (suc value)) true
          ≡ cond issued (row_free header memory row byte value) true
          && cond issued (free_in_reading (read_in (sizes_of header) memory row value) row (cond issued (row_byte header memory row byte value) byte)) true)
      go true = (refl, refl)
      go false = (refl, refl)

  -- a choice between two that are the same
  either : {A : Type 0} (issued : Bool) (only : A) → cond issued only only ≡ only
  either true only = refl
  either false only = refl

  module _ (some : 1 ≤ header.spacing) where
    -- THEOREM: the values come to one read of each row below n in each of them
    pub values_marked : (rows : List ℕ) (value : ℕ) → marked_values header memory rows value ≡ each_row (all_marked value) 0 rows
    values_marked rows zero = sym (each_keeps (all_marked 0) 0 rows (λ i byte h. either (ltb (0 + i) header.issued) byte))
    values_marked rows (suc value) =
        value_marked header memory value some (marked_values header memory rows value)
        ∙ ap (each_row (issued_marked header memory value) 0) (values_marked rows value)
        ∙ sym (each_then (all_marked value) (issued_marked header memory value) (all_marked (suc value)) (λ row byte. (next-value value row byte).0) 0 rows)

    pub values_hold_lem : (rows : List ℕ) (value : ℕ) → values_hold header memory rows value ≡ every_row (all_free value) 0 rows
    values_hold_lem rows zero = sym (each_every (all_free 0) 0 rows (λ i h. either (ltb (0 + i) header.issued) true))
    values_hold_lem rows (suc value) =
        ap₂ ◌&&◌ (values_hold_lem rows value)
        (value_holds header memory value some (marked_values header memory rows value)
        ∙ ap (every_row (issued_free header memory value) 0) (values_marked rows value))
        ∙ sym (every_then (all_marked value) (all_free value) (issued_free header memory value) (all_free (suc value)) (λ row byte. (next-value value row byte).1) 0 rows)
