-- Insert on an index that agrees with a plain column: both agree again, with one row more. Assumes nothing.
use mathlib.Core.Path.{◌≡◌, refl}
use mathlib.Core.Bool.{true, not}
use mathlib.Core.List.{List, [], ◌∷◌, ◌++◌}
use Prim.Native.Nat.{ℕ, ◌<◌}
use native.Mathlib.Omega.{arith}
use lib.Dec.{leb}
use lib.ListN.{length}
use borrow.Author.Tests.{leb-false, eq-eqb}
use Rattle.answers.specs.Outcome.{◌when◌}
use Rattle.answers.specs.declared.Refusal.TheVariants.{Full, Damaged}
use Rattle.memory.specs.Entry.{grown}
use Rattle.memory.specs.Memory.{Memory, sizes_of}
use Rattle.memory.specs.Reading.{row_of, is_free}
use Rattle.memory.specs.Outcomes.{made}
use Rattle.memory.specs.declared.header.Header.{Header}
use Rattle.change_value.specs.Change.{whole, flipped_in}
use Rattle.index.specs.Soundness.{Sound}
use Rattle.index.specs.Calls.{insert_after}
use Rattle.history.specs.Calls.{Insert}
use Rattle.history.specs.Plain.{Plain, header_of, with_column, becoming, plain_bad_value, plainly}
use Rattle.history.specs.History.{Agrees, Good}
use Rattle.history.proofs.Agreeing.{over}
use Rattle.history.proofs.FlipAgrees.{inserted_agrees}
use Rattle.history.proofs.Matching.{Matches, shared-checks, refused_matches, matches_good, made_matches}
use Rattle.history.proofs.Sound.{sound_lent, sound_whole}
use Rattle.history.proofs.SoundReading.{row-intact, row_unissued}

module _ (plain : Plain) (memory : Memory) (agrees : Agrees (over plain memory) plain) (value : ℕ) where
  abbrev header : Header
  header = header_of plain

  s : Sound (header_of plain) memory
  s = agrees.sound

  -- the row that is given
  abbrev row : ℕ
  row = length plain.column

  -- the column with the value at its end
  abbrev longer : List ℕ
  longer = plain.column ++ value ∷ []

  -- row n is in no value
  free : row < plain.rows → is_free (row_of (header_of plain) memory row) ≡ true
  free room =
      rw (row-intact header memory s row room, eq-eqb (row_of header memory row).holders 0 (row_unissued header memory s row room (omega arith))) refl

  insert_matches : Matches (over plain memory) (insert_after (header_of plain) memory value) (plainly plain (Insert value))
  unfolding insert_after
  insert_matches =
      rw (s.within, sound_lent header memory s)
      (shared-checks (Matches (over plain memory)) (plain_bad_value plain value ∷ Full when leb plain.rows row ∷ [])
      (Damaged when not (is_free (row_of header memory row)) ∷ Damaged when not (whole (sizes_of header) memory.words value) ∷ []) []
      header memory plain (made row (grown header) (flipped_in (sizes_of header) memory value row)) (becoming row (with_column plain longer))
      (refused_matches (over plain memory) plain agrees header)
      (λ passes.
      let h = leb-false plain.values value passes.0 in
      let room = leb-false plain.rows row passes.1.0 in
      rw (free room, sound_whole header memory s value h)
      (made_matches (over plain memory) row (grown header) (flipped_in (sizes_of header) memory value row) (with_column plain longer)
      (inserted_agrees plain memory agrees value h room))))

  -- THEOREM: Insert is good
  pub insert_good : Good (over plain memory) plain (Insert value)
  insert_good = matches_good (over plain memory) plain (Insert value) (insert_after header memory value) refl insert_matches
