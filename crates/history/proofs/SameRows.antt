-- Two sound indexes of one header whose values have the same rows answer alike: Query, Value but for the words opened, and Dump. Assumes nothing.
use mathlib.Core.Path.{◌≡◌, refl, ◌∙◌, ap, ap₂, sym}
use mathlib.Core.Bool.{Bool, true, false, not, cond}
use mathlib.Core.List.{List, ◌∷◌, [], ◌++◌}
use Prim.Native.Nat.{ℕ, zero, suc, ◌+◌, ◌-◌, ◌/◌, ◌%◌, ◌^◌, ◌<◌, ◌≤◌}
use native.Mathlib.Omega.{arith}
use lib.Dec.{leb, eqb}
use lib.ListN.{get_or}
use borrow.Author.Tests.{leb-false}
use Rattle.answers.specs.declared.Refusal.TheVariants.{Damaged}
use Rattle.blocks.specs.declared.sizes.Sizes.{Sizes}
use Rattle.memory.specs.Memory.{Memory, sizes_of, rows_in, every}
use Rattle.memory.specs.Reading.{row_step, read_row, row_of, is_damaged, is_deleted, refused_value, value_of, ValuePaper, state_paper, value_paper}
use Rattle.memory.specs.declared.header.Header.{Header}
use Rattle.memory.specs.declared.row.Row.{Row}
use Rattle.memory.specs.declared.row.State.{State}
use Rattle.memory.specs.declared.row.State.TheVariants.{Live, Deleted, Refused}
use Rattle.memory.proofs.Headers.{within}
use Rattle.fence_records.proofs.Every.{holds_every}
use Rattle.index.specs.Soundness.{Sound}
use Rattle.index.specs.Calls.{query_list, query_outcome, value_outcome, byte_of, bytes_of, dump_outcome}
use Rattle.history.proofs.Sound.{sound_lent, sound_whole}
use Rattle.history.proofs.SoundReading.{sound_reads, row_undamaged}
use Rattle.history.proofs.Tests.{either}
use Rattle.block_read.proofs.Readings.{read_as}

-- ---- answers that differ in the words opened alone

-- of a row that is read
record SameRow (one other : Row) : Type 0 where
  pub damaged : one.damaged ≡ other.damaged
  pub holders : one.holders ≡ other.holders
  pub value : one.value ≡ other.value

same_step : (row value group opened more : ℕ) {one other : Row} → SameRow one other
    → SameRow (row_step row value one (read_as group opened)) (row_step row value other (read_as group more))
same_step row value group opened more {one} {other} same = go (eqb (group / 2 ^ (30 - row % 31) % 2) 0)
  where
    go : (clear : Bool)
        → SameRow
        (cond clear
        (record { damaged = one.damaged; holders = one.holders; value = one.value; opened = one.opened + opened })
        (record { damaged = one.damaged; holders = one.holders + 1; value = value; opened = one.opened + opened }))
        (cond clear
        (record { damaged = other.damaged; holders = other.holders; value = other.value; opened = other.opened + more })
        (record { damaged = other.damaged; holders = other.holders + 1; value = value; opened = other.opened + more }))
    go true = record { damaged = same.damaged; holders = same.holders; value = same.value }
    go false = record { damaged = same.damaged; holders = ap (λ (holders : ℕ). holders + 1) same.holders; value = refl }

-- of Value
pub record SameState (one other : ValuePaper) : Type 0 where
  pub number : one.number ≡ other.number
  pub live : one.live ≡ other.live
  pub value : one.value ≡ other.value

same_paper : (state : State) (opened more : ℕ) → SameState (state_paper state opened) (state_paper state more)
same_paper (Live value) opened more = record { number = refl; live = refl; value = refl }
same_paper Deleted opened more = record { number = refl; live = refl; value = refl }
same_paper (Refused refusal) opened more = record { number = refl; live = refl; value = refl }

state_is : (row : Row) → (value_of row).state ≡ cond (is_damaged row) (Refused Damaged) (cond (is_deleted row) Deleted (Live row.value))
unfolding value_of
state_is row = go (is_damaged row) (is_deleted row)
  where
    go : (damaged gone : Bool)
        → (cond damaged (refused_value Damaged)
        (cond gone (record { state = Deleted; opened = row.opened }) (record { state = Live row.value; opened = row.opened }))).state
        ≡ cond damaged (Refused Damaged) (cond gone Deleted (Live row.value))
    go true gone = refl
    go false true = refl
    go false false = refl

same_state : (one other : Row) → SameRow one other → SameState (value_paper (value_of one)) (value_paper (value_of other))
same_state one other same =
    let states : (value_of one).state ≡ (value_of other).state = state_is one ∙ rw (same.damaged, same.holders, same.value) (sym (state_is other)) in
    rw states (same_paper (value_of other).state (value_of one).opened (value_of other).opened)

-- ---- two indexes

module _ (header : Header) (memory other : Memory) (s : Sound header memory) (t : Sound header other)
    (same : (value : ℕ) → value < header.values → rows_in (sizes_of header) memory.words value ≡ rows_in (sizes_of header) other.words value) where
  abbrev sizes : Sizes
  sizes = sizes_of header

  -- THEOREM: every Query is the same
  pub query_same : (value : ℕ) (out : List ℕ) → query_outcome header memory value out ≡ query_outcome header other value out
  unfolding query_outcome query_list
  query_same value out =
      either (leb header.values value)
      (λ refused. rw (s.within, sound_lent header memory s, sound_lent header other t, refused) refl)
      (λ taken.
      let h = leb-false header.values value taken in
      rw (
        s.within,
        sound_lent header memory s,
        sound_lent header other t,
        taken,
        sound_whole header memory s value h,
        sound_whole header other t value h,
        same value h,
      )
      refl)

  reads_same : (row : ℕ) → row < header.rows → (count : ℕ) → count ≤ header.values
      → SameRow (read_row sizes memory row count) (read_row sizes other row count)
  reads_same row h zero few = record { damaged = refl; holders = refl; value = refl }
  reads_same row h (suc count) few =
      let l : count < header.values = omega arith in
      let read = sound_reads header memory s row count h l in
      let also = sound_reads header other t row count h l in
      rw (read.reads, also.reads, same count l)
      (same_step row count (get_or (rows_in sizes other.words count) (row / 31) 0) read.opened also.opened (reads_same row h count (omega arith)))

  -- a row read is the same but for the words opened
  row_same : (row : ℕ) → row < header.rows → SameRow (row_of header memory row) (row_of header other row)
  unfolding row_of
  row_same row h = reads_same row h header.values (omega arith)

  inside : (row : ℕ) → row < header.issued → row < header.rows
  inside row h = omega (arith, (within header s.within).few_issued)

  -- THEOREM: every Value is the same, but for the words opened
  pub value_same : (row : ℕ) → SameState (value_outcome header memory row) (value_outcome header other row)
  unfolding value_outcome
  value_same row =
      rw (s.within, sound_lent header memory s, sound_lent header other t)
      (either (leb header.issued row)
      (λ refused. rw refused (record { number = refl; live = refl; value = refl }))
      (λ taken. rw taken
      (same_state (row_of header memory row) (row_of header other row) (row_same row (inside row (leb-false header.issued row taken))))))

  bytes_same : (count : ℕ) → count ≤ header.issued → bytes_of header memory count ≡ bytes_of header other count
  bytes_same zero few = refl
  bytes_same (suc row) few =
      let here = row_same row (inside row (omega arith)) in
      let byte : byte_of header memory row ≡ byte_of header other row = rw (here.holders, here.value) refl in
      ap₂ (λ (bytes : List ℕ) (byte : ℕ). bytes ++ byte ∷ []) (bytes_same row (omega arith)) byte

  -- THEOREM: every Dump is the same
  pub dump_same : (out : List ℕ) → dump_outcome header memory out ≡ dump_outcome header other out
  unfolding dump_outcome
  dump_same out =
      let undamaged : (index : Memory) → Sound header index → every header.issued (λ row. not (is_damaged (row_of header index row))) ≡ true =
      λ index u. holds_every header.issued (λ row. not (is_damaged (row_of header index row)))
      (λ row h. ap not (row_undamaged header index u row (inside row h))) in
      rw (
        s.within,
        sound_lent header memory s,
        sound_lent header other t,
        undamaged memory s,
        undamaged other t,
        bytes_same header.issued (omega arith),
      )
      refl
