-- The exits of the calls that change nothing: each answer is the one that the checks, in their order, call for. Assumes nothing.
use Rattle.std.specs.Prelude.{Ok, Result, Err}
use mathlib.Core.Path.{◌≡◌, refl, sym, ap, ◌∙◌}
use mathlib.Core.Bool.{true, not}
use mathlib.Core.List.{List, [], ◌∷◌}
use Prim.Native.Nat.{ℕ, ◌+◌, ◌*◌, ◌≤◌}
use lib.Dec.{ltb}
use lib.ListN.{length}
use Rattle.answers.specs.Outcome.{Check, ◌when◌, Gives}
use Rattle.answers.specs.declared.Refusal.{Refusal}
use Rattle.answers.specs.declared.Refusal.TheVariants.{Damaged, OutSmall}
use Rattle.blocks.specs.Sizes.{block_size}
use Rattle.blocks.specs.Inner.{Limits}
use Rattle.blocks.specs.declared.sizes.Sizes.{Sizes}
use Rattle.block_read.specs.declared.fence.Fence.{Fence}
use Rattle.block_change.specs.Inner.{list_outcome}
use Rattle.memory.specs.Entry.{bad_value, missing}
use Rattle.memory.specs.Inner.{Planned, Fenced, entered_row}
use Rattle.memory.specs.Memory.{Memory, memory_of, sizes_of, block_at, rows_in}
use Rattle.memory.specs.Reading.{row_of, refused_value, value_of, value_paper}
use Rattle.memory.specs.declared.header.Header.{Header}
use Rattle.memory.specs.declared.row.Row.{Row}
use Rattle.memory.specs.declared.row.Value.{Value}
use Rattle.memory.proofs.Deciding.{ready_enters, outcome_refuses, stop_refused, ready_goes_on}
use Rattle.memory.proofs.Places.{fenced}
use Rattle.change_value.specs.Change.{whole}
use Rattle.change_value.specs.Inner.{entered_whole}
use Rattle.change_value.proofs.Entering.{EntersWhole, ready_whole}
use Rattle.index.specs.Calls.{query_list, query_outcome, value_outcome}
use Rattle.index.proofs.Entries.{stop_value, ready_value}

module _ (words : List ℕ) (fences : List Fence) (header : Header) where
  abbrev memory : Memory
  memory = memory_of words fences

  -- ---- Value

  module _ (row : ℕ) (sizes : Sizes) (ready : Ok sizes ≡ entered_row (length words) (length fences) header row) where
    pub value_enters : Planned header sizes (length words) (length fences)
    value_enters = (ready_enters (length words) (length fences) header (missing header row ∷ []) sizes ready).planned

    pub value_found : (found : Row) → found ≡ row_of header memory row → (answer : Value) → answer ≡ value_of found
        → value_paper answer ≡ value_outcome header memory row
    value_found found read answer gives = ap value_paper (gives ∙ ap value_of read) ∙ sym (ready_value header memory row sizes ready)

  pub value_stops : (row : ℕ) (refusal : Refusal) → Err refusal ≡ entered_row (length words) (length fences) header row
      → (answer : Value) → answer ≡ refused_value refusal → value_paper answer ≡ value_outcome header memory row
  value_stops row refusal stop answer gives = ap value_paper gives ∙ sym (stop_value header memory row refusal stop)

  -- ---- a call on a value whose lists are to be whole

  module _ (value : ℕ) where
    abbrev pub whole-checks : List Check
    whole-checks = bad_value header value ∷ Damaged when not (whole (sizes_of header) words value) ∷ []

    module _ (sizes : Sizes) (ready : Ok sizes ≡ entered_whole words (length fences) header value) where
      enters : EntersWhole words (length fences) header value sizes
      enters = ready_whole words (length fences) header value sizes ready

      pub whole_planned : sizes ≡ sizes_of header
      whole_planned = enters.planned.planned

      pub whole_asks : Fenced sizes (length words) (length fences) value × (whole sizes words value ≡ true)
      whole_asks = (fenced enters.planned value enters.below, enters.are_whole)

    -- ---- Query

    module _ (out : List ℕ) where
      -- the check behind
      abbrev behind : List Check
      behind = OutSmall when ltb (length out) (length (query_list header memory value)) ∷ []

      pub query_stops : (refusal : Refusal) → Err refusal ≡ entered_whole words (length fences) header value
          → Gives (query_outcome header memory value out) (Err refusal) out
      unfolding query_outcome entered_whole
      query_stops refusal stop =
          rw (stop_refused (length words) (length fences) header whole-checks (outcome_refuses (query_list header memory value) out) behind refusal stop)
          (record { answers = refl; leaves = refl })

      module _ (sizes : Sizes) (ready : Ok sizes ≡ entered_whole words (length fences) header value) where
        pub query_asks : Limits sizes × (value * block_size sizes + block_size sizes ≤ length words) × (whole sizes words value ≡ true)
        query_asks = let asks = whole_asks sizes ready in (asks.0.limits, asks.0.inside, asks.1)

        -- the outcome is that of the value's own list
        same_outcome : list_outcome sizes (block_at sizes words value) out ≡ query_outcome header memory value out
        unfolding list_outcome query_outcome entered_whole query_list rows_in
        same_outcome =
            rw (whole_planned sizes ready)
            (sym
            (ready_goes_on (length words) (length fences) header whole-checks (outcome_refuses (query_list header memory value) out) behind sizes ready))

        pub query_listed : (answer : Result ℕ Refusal) (left : List ℕ) → Gives (list_outcome sizes (block_at sizes words value) out) answer left
            → Gives (query_outcome header memory value out) answer left
        query_listed answer left gives = rw (← same_outcome) gives
