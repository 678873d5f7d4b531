-- 65,536 bytes have room for all that is ever printed: each value's line has at most 8 bytes for each word of its block. Assumes nothing.
use mathlib.Core.Path.{◌≡◌, refl}
use mathlib.Core.Bool.{Bool, true, false, cond, ◌&&◌}
use mathlib.Core.List.{List, [], ◌∷◌}
use Prim.Native.Nat.{ℕ, ◌+◌, ◌*◌, ◌≤◌}
use native.Mathlib.Nat.{mul_left_comm}
use native.Mathlib.Omega.{arith}
use lib.Dec.{leb}
use lib.ListN.{length, drop, replicate, length-replicate}
use borrow.Author.Tests.{ltb-false, leb-true, le-leb, not-false}
use Rattle.answers.specs.Numbers.{number_of}
use Rattle.answers.specs.Outcome.{Check, ◌when◌}
use Rattle.answers.specs.declared.Refusal.TheVariants.{BadFrame}
use Rattle.answers.proofs.Accepted.{Passes}
use Rattle.blocks.specs.Sizes.{block_size, fence_count}
use Rattle.blocks.specs.Inner.{Limits}
use Rattle.blocks.proofs.WholeLists.{current-fits}
use Rattle.memory.specs.Entry.{no_header}
use Rattle.memory.specs.Memory.{Memory, limits, within_limits, sizes_of, lent, block_at, rows_in}
use Rattle.memory.specs.Outcomes.{After, made, change}
use Rattle.change_value.specs.Change.{whole}
use Rattle.index.specs.Calls.{query_list, query_checks, load_header, load_checks, loaded_in, load_after}
use Rattle.memory.specs.declared.header.Header.{Header}
use Rattle.memory.proofs.Headers.{within, within_limits_lem}
use Rattle.print.specs.Frame.{is_frame, rows_in as rowsSaid, values_in, threshold_in, spacing_in, column_in}
use Rattle.print.specs.Text.{refusal_line}
use Rattle.print.specs.Printed.{cleared, query_line, value_lines, load_lines, column_lines, frame_lines}
use Rattle.print.proofs.Stores.{length_refusal}
use Rattle.print.proofs.Lines.{refusal_line_lem, query_short, lines_below}

-- what is printed after a change is as long as the change or its refusal makes it
short_lines : (checks : List Check) (back : Header) (memory : Memory) (after : After) (most : ℕ) → 5 ≤ most → (Passes checks → length (load_lines after) ≤ most)
    → length (load_lines (change checks back memory after)) ≤ most
short_lines [] back memory after most h fits = fits tt
short_lines (refusal when true ∷ checks) back memory after most h fits =
    rw (refusal_line_lem refusal (value_lines back memory back.values)) (omega (arith, length_refusal (number_of refusal)))
short_lines (refusal when false ∷ checks) back memory after most h fits = short_lines checks back memory after most h (λ passes. fits (refl, passes))

-- the words lent
words_lent : (header : Header) (words fences : ℕ) → lent header words fences ≡ true → header.values * block_size (sizes_of header) ≤ words
unfolding lent
words_lent header words fences =
    go (leb (header.values * block_size (sizes_of header)) words) (leb (header.values * fence_count (sizes_of header)) fences) refl
  where
    go : (some more : Bool) → leb (header.values * block_size (sizes_of header)) words ≡ some → (some && more) ≡ true
        → header.values * block_size (sizes_of header) ≤ words
    go true more e is = leb-true (header.values * block_size (sizes_of header)) words e
    go false more e is = let z : ◌≡◌ {A = ℕ} 0 1 = cc in absurd (omega arith)

module _ (header : Header) (memory : Memory) (limited : Limits (sizes_of header)) where
  -- the list of a value whose Query passes
  list_short : (value : ℕ) → Passes (query_checks header memory value (replicate 4096 0)) → 8 * length (query_list header memory value) + 3 ≤ 8 * block_size (sizes_of header)
  unfolding whole query_list rows_in
  list_short value passes =
      let intact = not-false (whole (sizes_of header) memory.words value) passes.1.1.1.0 in
      omega (arith, current-fits (sizes_of header) limited (block_at (sizes_of header) memory.words value) intact)

  line_short : (value : ℕ) → length (query_line header memory value) ≤ 8 * block_size (sizes_of header)
  line_short value = query_short header memory value (8 * block_size (sizes_of header)) (omega arith) (list_short value)

  lines_short : length (value_lines header memory header.values) ≤ 8 * (header.values * block_size (sizes_of header))
  lines_short = rw (← mul_left_comm header.values 8 (block_size (sizes_of header))) (lines_below header memory (8 * block_size (sizes_of header)) line_short header.values)

-- the words of the cleared memory
cleared-words : length cleared.words ≡ 8192
unfolding cleared
cleared-words = length-replicate {A = ℕ} 8192 0

module _ (rows values threshold spacing : ℕ) (column : List ℕ) where
  abbrev header : Header
  header = load_header rows values threshold spacing column

  abbrev checks : List Check
  checks = load_checks rows values threshold spacing column cleared

  accepted_limits : Passes checks → Limits (sizes_of header)
  unfolding within_limits
  accepted_limits passes =
      let bounds = not-false (limits rows values threshold spacing) passes.0 in
      let few = ltb-false rows (length column) passes.1.1.1.0 in
      within_limits_lem header (within header (rw (bounds, le-leb (length column) rows few) refl))

  accepted_short : Passes checks → length (value_lines header (loaded_in (sizes_of header) column values cleared) values) ≤ 65536
  accepted_short passes =
      let lends = not-false (lent header (length cleared.words) (length cleared.fences)) passes.1.0 in
      let room = words_lent header (length cleared.words) (length cleared.fences) lends in
      omega (arith, lines_short header (loaded_in (sizes_of header) column values cleared) (accepted_limits passes), room, cleared-words)

  -- THEOREM: what a load prints fits 65,536 bytes
  pub column_short : length (column_lines rows values threshold spacing column) ≤ 65536
  unfolding column_lines load_after
  column_short = short_lines checks no_header cleared (made 0 header (loaded_in (sizes_of header) column values cleared)) 65536 (omega arith) accepted_short

-- THEOREM: whatever a line says, what is printed for it fits 65,536 bytes
pub frame_short : (line : List ℕ) → length (frame_lines line) ≤ 65536
unfolding frame_lines
frame_short line = go (is_frame line)
  where
    go : (is : Bool) → length (cond is (column_lines (rowsSaid line) (values_in line) (threshold_in line) (spacing_in line) (column_in (drop 16 line))) (refusal_line (number_of BadFrame))) ≤ 65536
    go true = column_short (rowsSaid line) (values_in line) (threshold_in line) (spacing_in line) (column_in (drop 16 line))
    go false = omega (arith, length_refusal (number_of BadFrame))
