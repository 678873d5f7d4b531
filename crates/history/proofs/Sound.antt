-- The test of soundness says just document 01's sentence, written out in index/specs/Soundness.antt. Assumes nothing.
use mathlib.Core.Path.{◌≡◌, refl}
use mathlib.Core.Bool.{true, not, and-eq-true_iff}
use mathlib.Core.Logic.{◌↔◌, by_cases}
use mathlib.Core.List.{[], ◌∷◌}
use Prim.Native.Nat.{ℕ, ◌<◌, ◌≤◌}
use native.Mathlib.Decide.{dec_lt}
use native.Mathlib.Omega.{arith}
use lib.Dec.{leb}
use lib.ListN.{length}
use borrow.Author.Tests.{leb-true, le-leb, not-false}
use Rattle.answers.specs.Outcome.{◌when◌}
use Rattle.answers.specs.declared.Refusal.TheVariants.{Damaged}
use Rattle.answers.proofs.Accepted.{accepted}
use Rattle.groups.specs.Rows.{row_at}
use Rattle.blocks.specs.Inner.{Limits}
use Rattle.memory.specs.Inner.{Planned, Fenced}
use Rattle.memory.specs.Memory.{Memory, within_limits, sizes_of, lent, block_at, rows_in, sound_value, every, holders_of, is_sound}
use Rattle.memory.specs.declared.header.Header.{Header}
use Rattle.memory.proofs.Places.{header-limits, fenced, planned_lent}
use Rattle.change_value.specs.Change.{whole}
use Rattle.fence_records.proofs.Every.{every_holds, holds_every}
use Rattle.index.specs.Soundness.{SoundLists, FencesRight, Sound}
use Rattle.index.specs.Calls.{entry_checks, audit_outcome}
use Rattle.index.proofs.Holders.{few-apart, apart-few}
use Rattle.history.proofs.SoundBlocks.{lists-whole, current_clear}
use Rattle.history.proofs.SoundTests.{lent_planned, value_says, says_value}

module _ (header : Header) (memory : Memory) where
  -- a row that was not issued is in no value
  row_unissued : Limits (sizes_of header) → (value : ℕ) → SoundLists (sizes_of header) header.issued (block_at (sizes_of header) memory.words value)
      → (row : ℕ) → header.issued ≤ row → row_at (rows_in (sizes_of header) memory.words value) row ≡ 0
  unfolding rows_in
  row_unissued limits value lists = current_clear limits lists

  -- in how many values a row is
  abbrev holders : ℕ → ℕ
  holders row = holders_of (sizes_of header) memory.words row header.values

  -- the four parts of the test
  module _ (holds : within_limits header ≡ true) (lends : lent header (length memory.words) (length memory.fences) ≡ true)
      (values : every header.values (sound_value header memory) ≡ true) (rows : every header.issued (λ row. leb (holders row) 1) ≡ true) where
    planned : Planned header (sizes_of header) (length memory.words) (length memory.fences)
    planned = lent_planned header (length memory.words) (length memory.fences) holds lends

    each : (value : ℕ) → value < header.values
        → SoundLists (sizes_of header) header.issued (block_at (sizes_of header) memory.words value) × FencesRight (sizes_of header) memory value
    each value h =
        value_says header memory value (fenced planned value h).room (every_holds header.values (sound_value header memory) values value h)

    few : (row : ℕ) → row < header.issued → holders row ≤ 1
    few row h = leb-true (holders row) 1 (every_holds header.issued (λ row. leb (holders row) 1) rows row h)

    all_say : Sound header memory
    all_say =
        record {
          within = holds;
          words_lent = planned.words_lent;
          fences_lent = planned.fences_lent;
          lists = λ value h. (each value h).0;
          fences = λ value h. (each value h).1;
          apart = λ row value other h l differ v o.
              by_cases (dec_lt row header.issued)
              (λ old. few-apart header memory.words row header.values (few row old) value other h l differ v o)
              (λ new. omega (arith, row_unissued (header-limits planned) value (each value h).0 row (omega (arith, new))));
        }

  -- THEOREM: the test of soundness says document 01's sentence
  pub sound_says : is_sound header memory ≡ true → Sound header memory
  unfolding is_sound
  sound_says e =
      let lends = lent header (length memory.words) (length memory.fences) in
      let three = (and-eq-true_iff _ (every header.issued (λ row. leb (holders row) 1))).0 e in
      let two = (and-eq-true_iff _ (every header.values (sound_value header memory))).0 three.0 in
      let one = (and-eq-true_iff (within_limits header) lends).0 two.0 in
      all_say one.0 one.1 two.1 three.1

  module _ (s : Sound header memory) where
    -- the header is within its limits, and the blocks and the fences of all values are lent
    sound_planned : Planned header (sizes_of header) (length memory.words) (length memory.fences)
    sound_planned = record { planned = refl; holds = s.within; words_lent = s.words_lent; fences_lent = s.fences_lent }

    pub sound_lent : lent header (length memory.words) (length memory.fences) ≡ true
    sound_lent = planned_lent sound_planned

    pub sound_limits : Limits (sizes_of header)
    sound_limits = header-limits sound_planned

    -- the block and the fences of a value lie inside what is lent
    pub sound_fenced : (value : ℕ) → value < header.values → Fenced (sizes_of header) (length memory.words) (length memory.fences) value
    sound_fenced value h = fenced sound_planned value h

    -- both lists of a value are whole
    pub sound_whole : (value : ℕ) → value < header.values → whole (sizes_of header) memory.words value ≡ true
    unfolding whole
    sound_whole value h = lists-whole (s.lists value h)

    -- a row that was not issued is in no value
    pub sound_clear : (value : ℕ) → value < header.values
        → (row : ℕ) → header.issued ≤ row → row_at (rows_in (sizes_of header) memory.words value) row ≡ 0
    sound_clear value h = row_unissued sound_limits value (s.lists value h)

    -- a row is in one value at most
    pub sound_few : (row : ℕ) → holders_of (sizes_of header) memory.words row header.values ≤ 1
    sound_few row = apart-few header memory.words row header.values (s.apart row)

    -- THEOREM: and the sentence says the test
    pub says_sound : is_sound header memory ≡ true
    unfolding is_sound
    says_sound =
        rw (
          s.within,
          sound_lent,
          holds_every header.values (sound_value header memory)
              (λ value h. says_value header memory value (sound_fenced value h).room (s.lists value h) (s.fences value h)),
          holds_every header.issued (λ row. leb (holders row) 1) (λ row h. le-leb (holders row) 1 (sound_few row)),
        )
        refl

  -- THEOREM: Audit's OK is soundness written out as document 01's sentence
  pub audit_exactly : ((audit_outcome header memory).answer.number ≡ 0) ↔ Sound header memory
  unfolding audit_outcome
  audit_exactly = (
    λ ok.
        let checks = entry_checks header memory (Damaged when not (is_sound header memory) ∷ []) in
        sound_says (not-false (is_sound header memory) (accepted checks [] [] ok).1.1.0),
    λ s. rw (s.within, sound_lent s, says_sound s) refl,
  )
