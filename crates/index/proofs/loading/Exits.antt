-- The exits of Load: the answer, the header, all words and all fences are those that the checks, in their order, call for. Assumes nothing.
use Rattle.std.specs.Prelude.{Ok, Err}
use mathlib.Core.Path.{◌≡◌, refl, sym, ap, ap₂, ◌∙◌}
use mathlib.Core.Bool.{true, not, and-true, and-eq-true_iff}
use mathlib.Core.List.{List, [], ◌∷◌}
use Prim.Native.Nat.{ℕ, ◌*◌, ◌<◌, ◌≤◌, ◌^◌}
use native.Mathlib.Omega.{arith}
use lib.Dec.{leb, ltb}
use lib.ListN.{length}
use borrow.Author.Tests.{leb-true, le-leb, ltb-false, not-false}
use Rattle.answers.specs.Outcome.{Check, ◌when◌}
use Rattle.answers.specs.declared.Refusal.{Refusal}
use Rattle.answers.specs.declared.Refusal.TheVariants.{BadHeader, Small, BadValue, Full}
use Rattle.answers.proofs.Accepted.{Passes}
use Rattle.blocks.specs.Sizes.{block_size, fence_count}
use Rattle.memory.specs.Entry.{header_for, valid_column, no_header}
use Rattle.memory.specs.Inner.{Planned, entered_index, entered_load, refused_by, done_with}
use Rattle.memory.specs.Memory.{Memory, memory_of, limits, within_limits, sizes_of, lent}
use Rattle.memory.specs.Outcomes.{After, made, Leaves}
use Rattle.index.specs.Calls.{load_header, load_checks, loaded_in, load_after}
use Rattle.memory.specs.declared.header.Header.{Header}
use Rattle.block_read.specs.declared.fence.Fence.{Fence}
use Rattle.memory.specs.declared.header.Changed.{Changed}
use Rattle.blocks.specs.declared.sizes.Sizes.{Sizes}
use Rattle.memory.proofs.Headers.{within}
use Rattle.memory.proofs.Deciding.{ready_passes, passes_read, stop_read, refused_change, change_refuses}
use Rattle.index.proofs.changing.Leaving.{refused_leaves, made_leaves}

module _ (words : List ℕ) (fences : List Fence) (column : List ℕ) (rows values threshold spacing : ℕ) where
  abbrev memory : Memory
  memory = memory_of words fences

  -- the header before and after
  abbrev empty : Header
  empty = header_for rows 0 values threshold spacing

  abbrev full : Header
  full = load_header rows values threshold spacing column

  abbrev after : After
  after = made 0 full (loaded_in (sizes_of full) column values memory)

  -- the checks as the code has them: those of an index with no row, then those of the column
  abbrev checks : List Check
  checks =
      BadHeader when not (within_limits empty)
      ∷ Small when not (lent empty (length words) (length fences))
      ∷ BadValue when not (valid_column values column)
      ∷ Full when ltb rows (length column)
      ∷ []

  no_rows : within_limits empty ≡ limits rows values threshold spacing
  unfolding within_limits
  no_rows = rw (le-leb 0 rows (omega arith)) (and-true (limits rows values threshold spacing))

  same_checks : load_checks rows values threshold spacing column memory ≡ checks
  unfolding lent
  same_checks = rw no_rows refl

  entry : (refusal : Refusal) → Err refusal ≡ entered_load (length words) (length fences) rows values threshold spacing column
      → load_after rows values threshold spacing column memory ≡ refused_change no_header memory refusal
  unfolding entered_index load_after
  entry refusal stop =
      rw same_checks (stop_read (change_refuses no_header memory after) [] (sizes_of empty) refusal checks stop)

  pub load_stops : (refusal : Refusal) → Err refusal ≡ entered_load (length words) (length fences) rows values threshold spacing column
      → (header : Header) → header ≡ no_header → (changed : Changed) → changed ≡ refused_by header refusal
      → Leaves (load_after rows values threshold spacing column memory) changed words fences
  load_stops refusal stop header none changed gives =
      refused_leaves no_header words fences refusal (load_after rows values threshold spacing column memory) (entry refusal stop)
      changed (gives ∙ ap (λ (h : Header). refused_by h refusal) none)

  module _ (sizes : Sizes) (ready : Ok sizes ≡ entered_load (length words) (length fences) rows values threshold spacing column) where
    told : (sizes ≡ sizes_of empty) × Passes checks
    unfolding entered_index
    told = ready_passes (sizes_of empty) sizes checks ready

    pub few-rows : length column ≤ rows
    few-rows = ltb-false rows (length column) told.1.1.1.1.0

    empty_holds : within_limits empty ≡ true
    empty_holds = not-false (within_limits empty) told.1.0

    pub length-fits : length column < 2 ^ 32
    length-fits = omega (arith, few-rows, (within empty empty_holds).few_rows)

    full_holds : within_limits full ≡ true
    unfolding within_limits
    full_holds = rw (sym no_rows ∙ empty_holds, le-leb (length column) rows few-rows) refl

    pub load_planned : Planned full sizes (length words) (length fences)
    unfolding lent
    load_planned =
        let blocks = values * block_size (sizes_of empty) in
        let records = values * fence_count (sizes_of empty) in
        let lends = not-false (lent empty (length words) (length fences)) told.1.1.0 in
        let both = (and-eq-true_iff (leb blocks (length words)) (leb records (length fences))).0 lends in
        record {
          planned = told.0;
          holds = full_holds;
          words_lent = leb-true blocks (length words) both.0;
          fences_lent = leb-true records (length fences) both.1;
        }

    pub load_asks : (header : Header) → header ≡ full → Planned header sizes (length words) (length fences) × (length column ≤ header.rows)
    load_asks header is = rw is (load_planned, few-rows)

    pub load_done : (header : Header) → header ≡ full
        → (left : List ℕ) (remade : List Fence)
        → (left ≡ (loaded_in (sizes_of header) column header.values memory).words) × (remade ≡ (loaded_in (sizes_of header) column header.values memory).fences)
        → (changed : Changed) → changed ≡ done_with header 0
        → Leaves (load_after rows values threshold spacing column memory) changed left remade
    unfolding load_after
    load_done header is left remade loads changed gives =
        made_leaves full 0 (loaded_in (sizes_of full) column values memory)
        (load_after rows values threshold spacing column memory)
        (rw same_checks (passes_read (change_refuses no_header memory after) [] checks told.1))
        changed (gives ∙ ap (λ (h : Header). done_with h 0) is)
        left remade (ap₂ memory_of (rw is at loads.0) (rw is at loads.1))
