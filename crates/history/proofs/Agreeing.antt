-- An index that agrees with a plain column: each value has the groups of its rows, and a row is in the value of its byte or in none. Assumes nothing.
use mathlib.Core.Path.{◌≡◌, refl, ◌∙◌, ap, sym}
use mathlib.Core.Bool.{true, cond}
use mathlib.Core.Logic.{◌⊎◌, by_cases}
use mathlib.Core.List.{List}
use Prim.Native.Nat.{ℕ, ◌<◌, ◌≤◌}
use native.Mathlib.Decide.{dec_lt}
use native.Mathlib.Omega.{arith}
use lib.Dec.{eqb}
use lib.ListN.{length}
use borrow.Author.Tests.{eq-eqb, ne_eqb}
use Rattle.groups.specs.Inner.{Groups}
use Rattle.groups.specs.Rows.{row_at}
use Rattle.groups.proofs.RowsBack.{same_groups}
use Rattle.words.proofs.Canonical.{canonical_parts}
use Rattle.words.proofs.Round.{decode-groups}
use Rattle.blocks.specs.Inner.{Limits}
use Rattle.blocks.specs.Whole.{whole_lists}
use Rattle.blocks.specs.declared.sizes.Sizes.{Sizes}
use Rattle.blocks.proofs.WholeLists.{length-current, current-lt}
use Rattle.load_list.specs.Column.{groups_with, list_for}
use Rattle.load_list.proofs.Columns.{row-held, row-past, decode-list_for, canonical-list_for}
use Rattle.memory.specs.Memory.{Memory, sizes_of, rows_in, block_at}
use Rattle.memory.specs.declared.header.Header.{Header}
use Rattle.memory.proofs.Headers.{Within, within}
use Rattle.index.specs.Soundness.{Sound}
use Rattle.index.proofs.Holders.{NoHolder}
use Rattle.history.specs.Calls.{Index, index_of}
use Rattle.history.specs.Plain.{Plain, header_of, byte_at}
use Rattle.history.specs.History.{Agrees}
use Rattle.history.proofs.ColumnBytes.{value-or_deleted, byte_there, byte_past}
use Rattle.history.proofs.Sound.{sound_limits}
use Rattle.history.proofs.SoundBlocks.{lists-whole}

-- a memory under the header of a column
abbrev pub over : Plain → Memory → Index
over plain memory = index_of (header_of plain) memory

-- what holds of each agreeing memory under the column's header holds of each agreeing index
pub under_header : (plain : Plain) (Holds : Index → Type 0) → ((memory : Memory) → Agrees (over plain memory) plain → Holds (over plain memory))
    → (index : Index) → Agrees index plain → Holds index
under_header plain Holds there index agrees =
    let same : index ≡ over plain index.memory = ap (λ (header : Header). index_of header index.memory) agrees.header in
    rw same (there index.memory (rw same at agrees))

module _ (plain : Plain) (memory : Memory) (agrees : Agrees (over plain memory) plain) where
  abbrev header : Header
  header = header_of plain

  abbrev column : List ℕ
  column = plain.column

  numbers : Within (header_of plain)
  numbers = within header agrees.sound.within

  -- the column fits R, and values are below 255
  pub row_fits : (row : ℕ) → row < length plain.column → row < plain.rows
  row_fits row h = omega (arith, numbers.few_issued)

  pub value-small : (value : ℕ) → value < plain.values → value < 255
  value-small value h = omega (arith, numbers.few_values)

  -- THEOREM: the row of a live byte is in its value
  pub row_live : (row : ℕ) → byte_at plain.column row < plain.values
      → row_at (rows_in (sizes_of (header_of plain)) memory.words (byte_at plain.column row)) row ≡ 1
  row_live row h = agrees.rows row (byte_at column row) h ∙ rw (eq-eqb (byte_at column row) (byte_at column row) refl) refl

  -- THEOREM: a row is in no value but that of its byte
  pub row_other : (row value : ℕ) → value < plain.values → (byte_at plain.column row ≡ value → ⊥)
      → row_at (rows_in (sizes_of (header_of plain)) memory.words value) row ≡ 0
  row_other row value h differ = agrees.rows row value h ∙ rw (ne_eqb (byte_at column row) value differ) refl

  -- THEOREM: a deleted row is in none
  pub row_deleted : (row : ℕ) → byte_at plain.column row ≡ 255 → NoHolder (header_of plain) memory.words row plain.values
  row_deleted row gone value h = row_other row value h (λ same. omega (arith, value-small value h))

  -- the byte of each row is a value or that of a deleted row
  pub live_or_deleted : (row : ℕ) → row < length plain.column
      → (byte_at plain.column row < plain.values) ⊎ (byte_at plain.column row ≡ 255)
  live_or_deleted = value-or_deleted plain.values column agrees.bytes

-- ---- in groups

module _ (plain : Plain) (memory : Memory) (sound : Sound (header_of plain) memory) (value : ℕ) (h : value < plain.values) where
  abbrev sizes : Sizes
  sizes = sizes_of (header_of plain)

  abbrev bytes : List ℕ
  bytes = plain.column

  abbrev block : List ℕ
  block = block_at sizes memory.words value

  limits : Limits sizes
  limits = sound_limits (header_of plain) memory sound

  whole : whole_lists sizes block ≡ true
  whole = lists-whole (sound.lists value h)

  fits : length bytes ≤ plain.rows
  fits = (within (header_of plain) sound.within).few_issued

  -- THEOREM: a row is 1 in the column's groups of a value exactly where its byte is the value
  pub row_with : (row : ℕ) → row_at (groups_with sizes value bytes) row ≡ cond (eqb (byte_at bytes row) value) 1 0
  row_with row =
      by_cases (dec_lt row (length bytes))
      (λ there. rw (← byte_there bytes row there) (row-held sizes limits value bytes fits row there))
      (λ past.
      let beyond : length bytes ≤ row = omega (arith, past) in
      let deleted : byte_at bytes row ≡ value → ⊥ = λ same. omega (arith, byte_past bytes row beyond, (within (header_of plain) sound.within).few_values) in
      rw (ne_eqb (byte_at bytes row) value deleted) (row-past sizes limits value bytes fits row beyond))

  small_with : Groups (groups_with sizes value bytes)
  small_with = rw (← decode-list_for sizes limits value bytes fits) (decode-groups (list_for sizes value bytes))

  long_with : length (groups_with sizes value bytes) ≡ sizes.groups
  long_with =
      ap length (sym (decode-list_for sizes limits value bytes fits))
      ∙ (canonical_parts plain.rows (list_for sizes value bytes) (canonical-list_for sizes limits value bytes fits)).long

  small-rows : Groups (rows_in sizes memory.words value)
  unfolding rows_in
  small-rows = current-lt sizes limits block whole

  long_rows : length (rows_in sizes memory.words value) ≡ sizes.groups
  unfolding rows_in
  long_rows = length-current sizes limits block whole

  -- THEOREM: a value that has just the column's rows has the column's groups
  pub rows_with_lem : ((row : ℕ) → row_at (rows_in sizes memory.words value) row ≡ cond (eqb (byte_at bytes row) value) 1 0)
      → rows_in sizes memory.words value ≡ groups_with sizes value bytes
  rows_with_lem each =
      same_groups (rows_in sizes memory.words value) (groups_with sizes value bytes) small-rows small_with (long_rows ∙ sym long_with)
      (λ row. each row ∙ sym (row_with row))
