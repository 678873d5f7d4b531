-- Merge on an index that agrees with a plain column: both agree again. Assumes nothing.
use mathlib.Core.Path.{refl, ◌∙◌}
use mathlib.Core.Bool.{not}
use mathlib.Core.List.{[], ◌∷◌}
use Prim.Native.Nat.{ℕ, ◌<◌}
use borrow.Author.Tests.{leb-false}
use Rattle.answers.specs.Outcome.{◌when◌}
use Rattle.answers.specs.declared.Refusal.TheVariants.{Damaged}
use Rattle.memory.specs.Memory.{Memory, sizes_of}
use Rattle.memory.specs.Outcomes.{made}
use Rattle.memory.specs.declared.header.Header.{Header}
use Rattle.change_value.specs.Change.{whole, merged_in}
use Rattle.index.specs.Soundness.{Sound}
use Rattle.index.specs.Calls.{merge_after}
use Rattle.history.specs.Calls.{Merge, index_of}
use Rattle.history.specs.Plain.{Plain, header_of, becoming, plain_bad_value, plainly}
use Rattle.history.specs.History.{Agrees, Good}
use Rattle.history.proofs.Agreeing.{over}
use Rattle.history.proofs.Matching.{Matches, shared-checks, refused_matches, matches_good, made_matches}
use Rattle.history.proofs.Sound.{sound_lent, sound_whole}
use Rattle.history.proofs.SoundMerge.{merge_replaces, merge_rows, merge_sound}

module _ (plain : Plain) (memory : Memory) (agrees : Agrees (over plain memory) plain) (value : ℕ) where
  abbrev header : Header
  header = header_of plain

  s : Sound (header_of plain) memory
  s = agrees.sound

  merged_agrees : value < plain.values → Agrees (index_of header (merged_in (sizes_of header) memory value)) plain
  merged_agrees h =
      let replaces = merge_replaces header memory s value h in
      record {
        header = refl;
        words = replaces.words.long ∙ agrees.words;
        fences = replaces.long_fences ∙ agrees.fences;
        sound = merge_sound header memory s value h;
        bytes = agrees.bytes;
        rows = λ row each l. rw (merge_rows header memory s value h each) (agrees.rows row each l);
      }

  merge_matches : Matches (over plain memory) (merge_after (header_of plain) memory value) (plainly plain (Merge value))
  unfolding merge_after
  merge_matches =
      rw (s.within, sound_lent header memory s)
      (shared-checks (Matches (over plain memory)) (plain_bad_value plain value ∷ []) (Damaged when not (whole (sizes_of header) memory.words value) ∷ []) []
      header memory plain (made 0 header (merged_in (sizes_of header) memory value)) (becoming 0 plain)
      (refused_matches (over plain memory) plain agrees header)
      (λ passes.
      let h = leb-false plain.values value passes.0 in
      rw (sound_whole header memory s value h)
      (made_matches (over plain memory) 0 header (merged_in (sizes_of header) memory value) plain (merged_agrees h))))

  -- THEOREM: Merge is good
  pub merge_good : Good (over plain memory) plain (Merge value)
  merge_good = matches_good (over plain memory) plain (Merge value) (merge_after header memory value) refl merge_matches
