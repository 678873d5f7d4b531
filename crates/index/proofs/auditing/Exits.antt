-- The exits of Audit: the answer is the one that the checks, in their order, call for. Assumes nothing.
use Rattle.std.specs.Prelude.{Ok, Err}
use mathlib.Core.Path.{◌≡◌, refl, sym, ap, ◌∙◌}
use mathlib.Core.Bool.{Bool, true, false, not}
use mathlib.Core.List.{List, [], ◌∷◌}
use Prim.Native.Nat.{ℕ}
use lib.ListN.{length}
use Rattle.answers.specs.Numbers.{paper}
use Rattle.answers.specs.Outcome.{◌when◌, Outcome}
use Rattle.answers.specs.declared.Refusal.{Refusal}
use Rattle.answers.specs.declared.Refusal.TheVariants.{Damaged}
use Rattle.memory.specs.Inner.{Planned, entered_index}
use Rattle.memory.specs.Memory.{Memory, memory_of, is_sound}
use Rattle.index.specs.Calls.{audit_outcome}
use Rattle.memory.specs.declared.header.Header.{Header}
use Rattle.block_read.specs.declared.fence.Fence.{Fence}
use Rattle.blocks.specs.declared.sizes.Sizes.{Sizes}
use Rattle.memory.proofs.Deciding.{ready_enters, outcome_refuses, stop_refused}
use Rattle.memory.proofs.Places.{planned_lent}

module _ (words : List ℕ) (fences : List Fence) (header : Header) where
  abbrev memory : Memory
  memory = memory_of words fences

  pub audit_stops : (refusal : Refusal) → Err refusal ≡ entered_index (length words) (length fences) header
      → paper (Err refusal) ≡ (audit_outcome header memory).answer
  unfolding audit_outcome
  audit_stops refusal stop =
      sym (ap (λ (o : Outcome). o.answer) (stop_refused (length words) (length fences) header [] (outcome_refuses [] []) (Damaged when not (is_sound header memory) ∷ []) refusal stop))

  pub audit_planned : (sizes : Sizes) → Ok sizes ≡ entered_index (length words) (length fences) header → Planned header sizes (length words) (length fences)
  audit_planned sizes ready = (ready_enters (length words) (length fences) header [] sizes ready).planned

  module _ {sizes : Sizes} (is : Planned header sizes (length words) (length fences)) (fine : Bool) (told : fine ≡ is_sound header memory) where
    pub audit_damaged : fine ≡ false → paper (Err Damaged) ≡ (audit_outcome header memory).answer
    unfolding audit_outcome
    audit_damaged fails = rw (is.holds, planned_lent is, sym told ∙ fails) refl

    pub audit_done : fine ≡ true → paper (Ok 0) ≡ (audit_outcome header memory).answer
    unfolding audit_outcome
    audit_done holds = rw (is.holds, planned_lent is, sym told ∙ holds) refl
