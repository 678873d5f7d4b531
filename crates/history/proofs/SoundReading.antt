-- Reading on a sound index: no read breaks, and a row is found in the value that has it, or in none. Assumes nothing.
use mathlib.Core.Path.{◌≡◌, refl, ◌∙◌, sym}
use mathlib.Core.Bool.{false}
use mathlib.Core.Logic.{by_cases}
use mathlib.Core.List.{List}
use Prim.Native.Nat.{ℕ, zero, suc, ◌+◌, ◌-◌, ◌/◌, ◌%◌, ◌^◌, ◌<◌, ◌≤◌}
use native.Mathlib.Decide.{dec_lt}
use native.Mathlib.Omega.{arith}
use lib.ListN.{get_or}
use borrow.Author.Tests.{le-ltb}
use Rattle.groups.specs.Rows.{row_at}
use Rattle.blocks.specs.declared.sizes.Sizes.{Sizes}
use Rattle.blocks.proofs.SizeLaws.{fence_of_lem}
use Rattle.block_read.proofs.Reaching.{Reaches, fence_reads}
use Rattle.block_read.proofs.Readings.{read_as}
use Rattle.memory.specs.Memory.{Memory, sizes_of, block_at, rows_in, holders_of}
use Rattle.memory.specs.Reading.{fence_for, read_in, row_step, read_row, row_of, is_damaged}
use Rattle.memory.specs.declared.header.Header.{Header}
use Rattle.memory.specs.declared.row.Row.{Row}
use Rattle.memory.proofs.RowLaws.{step_clear, step_set, read_budget}
use Rattle.index.specs.Soundness.{Sound}
use Rattle.index.proofs.Holders.{holder_counts, none_holds, one_holds, NoHolder}
use Rattle.history.proofs.Sound.{sound_limits, sound_clear, sound_few}
use Rattle.history.proofs.SoundBlocks.{lists-whole}

-- ---- one value more, by the row's bit

module _ (row value : ℕ) (before : Row) (group opened : ℕ) where
  abbrev bit : ℕ
  bit = group / 2 ^ (30 - row % 31) % 2

  -- a read that does not break leaves the row as it was but for the holders
  record Stepped (after : Row) : Type 0 where
    pub damaged : after.damaged ≡ before.damaged
    pub holders : after.holders ≡ before.holders + bit
    pub kept : bit ≡ 0 → after.value ≡ before.value
    pub taken : bit ≡ 1 → after.value ≡ value

  stepped : Stepped (row_step row value before (read_as group opened))
  stepped =
      by_cases (dec_lt 0 bit)
      (λ some. rw (step_set row value before group opened (λ none. omega arith))
      (record { damaged = refl; holders = omega arith; kept = λ none. absurd (omega arith); taken = λ one. refl }))
      (λ none. rw (step_clear row value before group opened (omega (arith, none)))
      (record { damaged = refl; holders = omega (arith, none); kept = λ zero. refl; taken = λ one. absurd (omega (arith, none)) }))

-- ---- one read

module _ (header : Header) (memory : Memory) (s : Sound header memory) where
  abbrev sizes : Sizes
  sizes = sizes_of header

  abbrev rows : ℕ → List ℕ
  rows value = rows_in sizes memory.words value

  -- THEOREM: on a sound index a read never breaks: it gives the row's group in V xor U, and opens at most G + 2T + 1 words
  pub sound_reads : (row value : ℕ) → row < header.rows → value < header.values
      → Reaches (read_in sizes memory row value) (get_or (rows value) (row / 31) 0) (read_budget sizes)
  unfolding read_in rows_in fence_for
  sound_reads row value h l =
      let group = row / 31 in
      let inside : group < sizes.groups = omega arith in
      let limits = sound_limits header memory s in
      fence_reads sizes limits (block_at sizes memory.words value) (lists-whole (s.lists value l)) group inside
      (fence_for sizes memory row value) (s.fences value l (group / sizes.spacing) (fence_of_lem sizes limits group inside))

  -- ---- the row in all values

  -- what is read of a row in the first values: no damage, the holders, and the value that alone has it
  record Reads (row count : ℕ) (read : Row) : Type 0 where
    pub intact : read.damaged ≡ false
    pub counts : read.holders ≡ holders_of sizes memory.words row count
    pub finds : holders_of sizes memory.words row count ≤ 1 → (value : ℕ) → value < count → row_at (rows value) row ≡ 1 → read.value ≡ value

  reads-row : (row : ℕ) → row < header.rows → (count : ℕ) → count ≤ header.values → Reads row count (read_row sizes memory row count)
  reads-row row h zero few = record { intact = refl; counts = refl; finds = λ _ value l. absurd (omega arith) }
  reads-row row h (suc count) few =
      let read = sound_reads row count h (omega arith) in
      let before = reads-row row h count (omega arith) in
      let here = stepped row count (read_row sizes memory row count) (get_or (rows count) (row / 31) 0) read.opened in
      rw read.reads
      (record {
        intact = here.damaged ∙ before.intact;
        counts = omega (arith, here.holders, before.counts);
        finds = λ one value l has.
            by_cases (dec_lt value count)
            (λ less.
            let there = holder_counts header memory.words row count value less in
            here.kept (omega arith) ∙ before.finds (omega arith) value less has)
            (λ last.
            let same : value ≡ count = omega (arith, last) in
            here.taken (rw same at has) ∙ sym same);
      })

  module _ (row : ℕ) (h : row < header.rows) where
    all : Reads row header.values (row_of header memory row)
    unfolding row_of
    all = reads-row row h header.values (omega arith)

    -- THEOREM: on a sound index reading a row is never damage
    pub row-intact : (row_of header memory row).damaged ≡ false
    row-intact = all.intact

    pub row_undamaged : is_damaged (row_of header memory row) ≡ false
    row_undamaged = rw (row-intact, le-ltb 1 (row_of header memory row).holders (omega (arith, all.counts, sound_few header memory s row))) refl

    -- THEOREM: a row that is in a value is found there and nowhere else
    pub row-found : (value : ℕ) → value < header.values → row_at (rows_in sizes memory.words value) row ≡ 1
        → ((row_of header memory row).holders ≡ 1) × ((row_of header memory row).value ≡ value)
    row-found value l has =
        let few = sound_few header memory s row in
        (all.counts ∙ one_holds header memory.words row header.values value l has few, all.finds few value l has)

    -- a row that is in no value is found in none
    pub row-none : NoHolder header memory.words row header.values → (row_of header memory row).holders ≡ 0
    row-none none = all.counts ∙ none_holds header memory.words row header.values none

    -- THEOREM: nor is a row that was not issued
    pub row_unissued : header.issued ≤ row → (row_of header memory row).holders ≡ 0
    row_unissued new = row-none (λ value l. sound_clear header memory s value l row new)
