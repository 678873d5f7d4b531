-- What the entry into an index says of Value's answer. Assumes nothing.
use Rattle.std.specs.Prelude.{Ok, Err}
use mathlib.Core.Path.{◌≡◌, refl, sym, ap}
use mathlib.Core.Bool.{Bool, true, false, not, cond}
use mathlib.Core.List.{[], ◌∷◌}
use Prim.Native.Nat.{ℕ}
use lib.Dec.{leb}
use lib.ListN.{length}
use Rattle.answers.specs.Outcome.{◌when◌}
use Rattle.answers.specs.declared.Refusal.{Refusal}
use Rattle.answers.specs.declared.Refusal.TheVariants.{BadHeader, Small, NoRow}
use Rattle.blocks.specs.declared.sizes.Sizes.{Sizes}
use Rattle.memory.specs.Memory.{Memory, within_limits, sizes_of, lent}
use Rattle.memory.specs.Entry.{missing}
use Rattle.memory.specs.Inner.{asked_all, entered_index, entered_row}
use Rattle.memory.specs.Reading.{row_of, refused_value, value_of, ValuePaper, value_paper}
use Rattle.memory.specs.declared.header.Header.{Header}
use Rattle.memory.proofs.Deciding.{not_ready, same_reason, ready_enters}
use Rattle.index.specs.Calls.{value_outcome}

module _ (header : Header) (memory : Memory) (row : ℕ) where
  says : Refusal → ValuePaper
  says refusal = value_paper (refused_value refusal)

  found : ValuePaper
  found = value_paper (value_of (row_of header memory row))

  first_says : (refusal : Refusal) (outside few gone : Bool)
      → Err refusal ≡ asked_all (Ok (sizes_of header)) (BadHeader when outside ∷ Small when few ∷ NoRow when gone ∷ [])
      → cond outside (says BadHeader) (cond few (says Small) (cond gone (says NoRow) found)) ≡ says refusal
  first_says refusal true few gone e = ap says (same_reason e)
  first_says refusal false true gone e = ap says (same_reason e)
  first_says refusal false false true e = ap says (same_reason e)
  first_says refusal false false false e = absurd (not_ready (sym e))

  -- THEOREM: where the entry stops, Value is refused for that reason
  pub stop_value : (refusal : Refusal) → Err refusal ≡ entered_row (length memory.words) (length memory.fences) header row
      → value_outcome header memory row ≡ value_paper (refused_value refusal)
  unfolding entered_index value_outcome says found
  stop_value refusal e =
      let lends = lent header (length memory.words) (length memory.fences) in
      first_says refusal (not (within_limits header)) (not lends) (leb header.issued row) e

  -- THEOREM: where it is ready, Value answers the row's state
  pub ready_value : (sizes : Sizes) → Ok sizes ≡ entered_row (length memory.words) (length memory.fences) header row
      → value_outcome header memory row ≡ value_paper (value_of (row_of header memory row))
  unfolding value_outcome
  ready_value sizes e =
      let enters = ready_enters (length memory.words) (length memory.fences) header (missing header row ∷ []) sizes e in
      rw (enters.planned.holds, enters.lends, enters.passes.0) refl
