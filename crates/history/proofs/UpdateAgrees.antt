-- Update on an index that agrees with a plain column: both agree again. Assumes nothing.
use mathlib.Core.Path.{◌≡◌, refl, ◌∙◌, ap, sym}
use mathlib.Core.Bool.{true, not, cond, ◌&&◌}
use mathlib.Core.Logic.{⊎_elim}
use mathlib.Core.List.{[], ◌∷◌}
use Prim.Native.Nat.{ℕ, ◌<◌}
use lib.Dec.{eqb}
use lib.ListN.{length, set, length-set}
use lib.Seq.{get_or-set_same, set-get_or, set-set}
use borrow.Author.Tests.{leb-false, eqb-true}
use Rattle.answers.specs.Outcome.{◌when◌}
use Rattle.answers.specs.declared.Refusal.TheVariants.{Damaged, Gone}
use Rattle.memory.specs.Memory.{Memory, sizes_of}
use Rattle.memory.specs.Reading.{row_of, is_damaged, is_deleted}
use Rattle.memory.specs.Outcomes.{made}
use Rattle.memory.specs.declared.header.Header.{Header}
use Rattle.change_value.specs.Change.{whole, flipped_in}
use Rattle.index.specs.Soundness.{Sound}
use Rattle.index.specs.Calls.{old_value, update_after}
use Rattle.history.specs.Calls.{Update, index_of}
use Rattle.history.specs.Plain.{Plain, header_of, with_column, byte_at, becoming, plain_bad_value, plain_no_row, plain_gone, plainly}
use Rattle.history.specs.History.{Agrees, Good}
use Rattle.history.proofs.Agreeing.{over, under_header}
use Rattle.history.proofs.FlipAgrees.{removed_agrees, put_agrees}
use Rattle.history.proofs.Matching.{Matches, shared-checks, refused_matches, matches_good, made_matches}
use Rattle.history.proofs.ReadingAgrees.{FindsLive, FindsDeleted, finds_undamaged, finds_row}
use Rattle.history.proofs.Sound.{sound_lent, sound_whole}
use Rattle.history.proofs.Tests.{either}

module _ (plain : Plain) (memory : Memory) (agrees : Agrees (over plain memory) plain) (row value : ℕ) where
  abbrev header : Header
  header = header_of plain

  s : Sound (header_of plain) memory
  s = agrees.sound

  abbrev byte : ℕ
  byte = byte_at plain.column row

  -- the memory with the row out of its value, and then in the new one
  abbrev removed : Memory
  removed = flipped_in (sizes_of header) memory byte row

  abbrev moved : Memory
  moved = flipped_in (sizes_of header) removed value row

  -- the column with the row deleted, and with the new value
  abbrev without : Plain
  without = with_column plain (set plain.column row 255)

  abbrev next : Plain
  next = with_column plain (set plain.column row value)

  -- a row moved is deleted, and then put
  moved_agrees : row < length plain.column → byte < plain.values → value < plain.values → Agrees (index_of (header_of plain) moved) next
  moved_agrees h live l =
      let below : row < length (set plain.column row 255) = rw (length-set plain.column row 255) h in
      rw (set-set plain.column row 255 value) at
      (under_header without
      (λ index. Agrees (index_of index.header (flipped_in (sizes_of index.header) index.memory value row))
      (with_column without (set without.column row value)))
      (λ memory again. put_agrees without memory again row below (get_or-set_same plain.column row 255 255 h) value l)
      (index_of header removed) (removed_agrees plain memory agrees row h live))

  -- to the same value nothing changes
  same_agrees : eqb byte value ≡ true → Agrees (over plain memory) next
  same_agrees same =
      let stays : set plain.column row value ≡ plain.column =
      ap (set plain.column row) (sym (eqb-true byte value same)) ∙ set-get_or plain.column row 255 in
      rw stays agrees

  update_matches : Matches (over plain memory) (update_after (header_of plain) memory row value) (plainly plain (Update row value))
  unfolding update_after
  update_matches =
      let read = row_of header memory row in
      let old = old_value header memory row in
      rw (s.within, sound_lent header memory s)
      (shared-checks (Matches (over plain memory)) (plain_bad_value plain value ∷ plain_no_row plain row ∷ [])
      (Damaged when is_damaged read
      ∷ Gone when is_deleted read
      ∷ Damaged when (not (eqb old value) && not (whole (sizes_of header) memory.words old && whole (sizes_of header) memory.words value))
      ∷ [])
      (plain_gone plain row ∷ [])
      header memory plain
      (cond (eqb old value) (made 0 header memory) (made 0 header (flipped_in (sizes_of header) (flipped_in (sizes_of header) memory old row) value row)))
      (becoming 0 next)
      (refused_matches (over plain memory) plain agrees header)
      (λ passes.
      let l = leb-false plain.values value passes.0 in
      let h = leb-false (length plain.column) row passes.1.0 in
      ⊎_elim
      (λ (finds : FindsLive plain memory agrees row h).
      rw (
        finds_undamaged plain memory agrees row h,
        finds.held,
        finds.not_gone,
        finds.holder,
        sound_whole header memory s byte finds.live,
        sound_whole header memory s value l,
      )
      (either (eqb byte value)
      (λ same. rw same (made_matches (over plain memory) 0 header memory next (same_agrees same)))
      (λ differ. rw differ (made_matches (over plain memory) 0 header moved next (moved_agrees h finds.live l)))))
      (λ (finds : FindsDeleted plain memory agrees row h).
      rw (finds_undamaged plain memory agrees row h, finds.free, finds.gone) (refused_matches (over plain memory) plain agrees header Gone))
      (finds_row plain memory agrees row h)))

  -- THEOREM: Update is good
  pub update_good : Good (over plain memory) plain (Update row value)
  update_good = matches_good (over plain memory) plain (Update row value) (update_after header memory row value) refl update_matches
