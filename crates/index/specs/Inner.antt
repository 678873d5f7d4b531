-- Definitions that the contracts of inner functions alone cite: what a call that changes rows is to do, decided before anything is written.
use Rattle.std.specs.Prelude.{Option, Some, None, Result, Ok, Err, cond, ℕ, eqb}
use Rattle.answers.specs.declared.Refusal.{Refusal}
use Rattle.memory.specs.Inner.{decided}
use Rattle.memory.specs.Memory.{Memory, sizes_of}
use Rattle.memory.specs.declared.header.Header.{Header}
use Rattle.change_value.specs.Change.{merges_in}
use Rattle.index.specs.Calls.{insert_checks, old_value, delete_checks, update_checks}
use Rattle.index.specs.declared.deciding.Flipping.{Flipping}
use Rattle.index.specs.declared.deciding.Moving.{Moving}

module _ (header : Header) (memory : Memory) where
  -- a flip of a row in a value, and whether it merges first
  abbrev pub flips_in : ℕ → ℕ → Flipping
  flips_in value row = record { sizes = sizes_of header; value = value; merges = merges_in (sizes_of header) memory.words value row }

  unfoldable pub insert_decision : ℕ → Result Flipping Refusal
  insert_decision value = decided Err (insert_checks header memory value) (Ok (flips_in value header.issued))

  unfoldable pub delete_decision : ℕ → Result Flipping Refusal
  delete_decision row = decided Err (delete_checks header memory row) (Ok (flips_in (old_value header memory row) row))

  -- a flip in the old value and one in the new
  abbrev pub moves_in : ℕ → ℕ → ℕ → Moving
  moves_in old value row =
      record {
        sizes = sizes_of header;
        old = old;
        old_merges = merges_in (sizes_of header) memory.words old row;
        new_merges = merges_in (sizes_of header) memory.words value row;
      }

  -- nothing is to be done where the values are the same
  unfoldable pub update_decision : ℕ → ℕ → Result (Option Moving) Refusal
  update_decision row value =
      decided Err (update_checks header memory row value)
      (Ok (cond (eqb (old_value header memory row) value) None (Some (moves_in (old_value header memory row) value row))))
