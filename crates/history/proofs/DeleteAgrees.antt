-- Delete on an index that agrees with a plain column: both agree again. Assumes nothing.
use mathlib.Core.Path.{refl}
use mathlib.Core.Bool.{not}
use mathlib.Core.Logic.{⊎_elim}
use mathlib.Core.List.{List, [], ◌∷◌}
use Prim.Native.Nat.{ℕ}
use lib.ListN.{length, set}
use borrow.Author.Tests.{leb-false}
use Rattle.answers.specs.Outcome.{◌when◌}
use Rattle.answers.specs.declared.Refusal.TheVariants.{Damaged, Gone}
use Rattle.memory.specs.Memory.{Memory, sizes_of}
use Rattle.memory.specs.Reading.{row_of, is_damaged, is_deleted}
use Rattle.memory.specs.Outcomes.{made}
use Rattle.memory.specs.declared.header.Header.{Header}
use Rattle.change_value.specs.Change.{whole, flipped_in}
use Rattle.index.specs.Soundness.{Sound}
use Rattle.index.specs.Calls.{old_value, delete_after}
use Rattle.history.specs.Calls.{Delete}
use Rattle.history.specs.Plain.{Plain, header_of, with_column, byte_at, becoming, plain_no_row, plain_gone, plainly}
use Rattle.history.specs.History.{Agrees, Good}
use Rattle.history.proofs.Agreeing.{over}
use Rattle.history.proofs.FlipAgrees.{removed_agrees}
use Rattle.history.proofs.Matching.{Matches, shared-checks, refused_matches, matches_good, made_matches}
use Rattle.history.proofs.ReadingAgrees.{FindsLive, FindsDeleted, finds_undamaged, finds_row}
use Rattle.history.proofs.Sound.{sound_lent, sound_whole}

module _ (plain : Plain) (memory : Memory) (agrees : Agrees (over plain memory) plain) (row : ℕ) where
  abbrev header : Header
  header = header_of plain

  s : Sound (header_of plain) memory
  s = agrees.sound

  abbrev byte : ℕ
  byte = byte_at plain.column row

  -- the column with the row deleted
  abbrev shorter : List ℕ
  shorter = set plain.column row 255

  delete_matches : Matches (over plain memory) (delete_after (header_of plain) memory row) (plainly plain (Delete row))
  unfolding delete_after
  delete_matches =
      let read = row_of header memory row in
      rw (s.within, sound_lent header memory s)
      (shared-checks (Matches (over plain memory)) (plain_no_row plain row ∷ [])
      (Damaged when is_damaged read ∷ Gone when is_deleted read ∷ Damaged when not (whole (sizes_of header) memory.words (old_value header memory row)) ∷ [])
      (plain_gone plain row ∷ [])
      header memory plain (made 0 header (flipped_in (sizes_of header) memory (old_value header memory row) row)) (becoming 0 (with_column plain shorter))
      (refused_matches (over plain memory) plain agrees header)
      (λ passes.
      let h = leb-false (length plain.column) row passes.0 in
      ⊎_elim
      (λ (finds : FindsLive plain memory agrees row h).
      rw (finds_undamaged plain memory agrees row h, finds.held, finds.not_gone, finds.holder, sound_whole header memory s byte finds.live)
      (made_matches (over plain memory) 0 header (flipped_in (sizes_of header) memory byte row) (with_column plain shorter)
      (removed_agrees plain memory agrees row h finds.live)))
      (λ (finds : FindsDeleted plain memory agrees row h).
      rw (finds_undamaged plain memory agrees row h, finds.free, finds.gone) (refused_matches (over plain memory) plain agrees header Gone))
      (finds_row plain memory agrees row h)))

  -- THEOREM: Delete is good
  pub delete_good : Good (over plain memory) plain (Delete row)
  delete_good = matches_good (over plain memory) plain (Delete row) (delete_after header memory row) refl delete_matches
