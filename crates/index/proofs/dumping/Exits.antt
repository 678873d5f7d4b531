-- The exits of Dump: the answer and the output are those that the checks, in their order, call for. Assumes nothing.
use Rattle.std.specs.Prelude.{Ok, Result, Err}
use mathlib.Core.Path.{◌≡◌, refl, sym, ◌∙◌}
use mathlib.Core.Bool.{Bool, true, false, not}
use mathlib.Core.List.{List, [], ◌∷◌}
use Prim.Native.Nat.{ℕ, ◌≤◌}
use native.Mathlib.Omega.{arith}
use lib.Dec.{ltb}
use lib.ListN.{length, take, replicate}
use Rattle.answers.specs.Outcome.{Check, ◌when◌, outcome, Gives}
use Rattle.answers.specs.declared.Refusal.{Refusal}
use Rattle.answers.specs.declared.Refusal.TheVariants.{Damaged, OutSmall}
use Rattle.groups.specs.Rows.{row_limit}
use Rattle.memory.specs.Inner.{Planned, entered_index}
use Rattle.dump_spans.specs.Inner.{values_hold, marked_values, rows_given}
use Rattle.memory.specs.Memory.{Memory, memory_of, every}
use Rattle.memory.specs.Reading.{row_of, is_damaged}
use Rattle.index.specs.Calls.{bytes_of, dump_outcome}
use Rattle.memory.specs.declared.header.Header.{Header}
use Rattle.block_read.specs.declared.fence.Fence.{Fence}
use Rattle.blocks.specs.declared.sizes.Sizes.{Sizes}
use Rattle.index.proofs.DumpLaws.{dump_holds, dump_bytes}
use Rattle.memory.proofs.Deciding.{ready_enters, outcome_refuses, stop_refused}
use Rattle.memory.proofs.Places.{planned_lent, numbers}

module _ (words : List ℕ) (fences : List Fence) (header : Header) (out : List ℕ) where
  abbrev memory : Memory
  memory = memory_of words fences

  -- the checks behind the entry
  abbrev intact : Bool
  intact = every header.issued (λ row. not (is_damaged (row_of header memory row)))

  abbrev behind : List Check
  behind = Damaged when not intact ∷ OutSmall when ltb (length out) header.issued ∷ []

  pub dump_stops : (refusal : Refusal) → Err refusal ≡ entered_index (length words) (length fences) header
      → Gives (dump_outcome header memory out) (Err refusal) out
  unfolding dump_outcome
  dump_stops refusal stop =
      rw (stop_refused (length words) (length fences) header [] (outcome_refuses (bytes_of header memory header.issued) out) behind refusal stop)
      (record { answers = refl; leaves = refl })

  pub dump_planned : (sizes : Sizes) → Ok sizes ≡ entered_index (length words) (length fences) header → Planned header sizes (length words) (length fences)
  dump_planned sizes ready = (ready_enters (length words) (length fences) header [] sizes ready).planned

  module _ {sizes : Sizes} (is : Planned header sizes (length words) (length fences)) (rows : List ℕ) (clear : rows ≡ replicate row_limit 255) where
    enough : header.issued ≤ row_limit
    enough = omega (arith, (numbers is).few_issued, (numbers is).few_rows)

    -- the header and the sizes hold
    goes_on : dump_outcome header memory out ≡ outcome behind (bytes_of header memory header.issued) out
    unfolding dump_outcome
    goes_on = rw (is.holds, planned_lent is) refl

    module _ (fine : Bool) (left : List ℕ)
        (marks : (fine ≡ values_hold header memory rows header.values) × (fine ≡ true → left ≡ marked_values header memory rows header.values)) where
      held : values_hold header memory (replicate row_limit 255) header.values ≡ fine
      held = rw (← clear) (sym marks.0)

      is_intact : intact ≡ fine
      is_intact = sym (dump_holds header memory (numbers is) row_limit enough) ∙ held

      pub dump_damaged : fine ≡ false → Gives (dump_outcome header memory out) (Err Damaged) out
      dump_damaged fails = rw (goes_on, is_intact, fails) (record { answers = refl; leaves = refl })

      pub dump_done : fine ≡ true → (answer : Result ℕ Refusal) (given : List ℕ) → Gives (rows_given header.issued left out) answer given
          → Gives (dump_outcome header memory out) answer given
      unfolding rows_given
      dump_done holds answer given gives =
          let bytes : take header.issued left ≡ bytes_of header memory header.issued =
          rw (marks.1 holds, clear) (dump_bytes header memory (numbers is) row_limit enough (held ∙ holds)) in
          rw (goes_on, is_intact, holds, ← bytes) gives
