-- No row is in two values: seen from the values one after the other, each apart from the rows of those before it. Assumes nothing.
use mathlib.Core.Path.{◌≡◌, refl, ◌∙◌, ap, sym}
use mathlib.Core.Bool.{Bool, true, false, ◌&&◌, and-false, and-eq-true_iff}
use mathlib.Core.List.{List}
use Prim.Native.Nat.{ℕ, zero, suc, ◌+◌, ◌<◌, ◌≤◌}
use native.Mathlib.Omega.{arith}
use lib.Dec.{leb, ltb}
use lib.ListN.{length, replicate, length-replicate}
use borrow.Author.Tests.{leb-true, le-leb, ltb-true, ltb-false}
use Rattle.groups.specs.Rows.{row_at}
use Rattle.groups.proofs.Groups.{row_at-zeros}
use Rattle.groups.proofs.Tail.{clear_from-row_at}
use Rattle.lists.specs.Combine.{answer, combined}
use Rattle.lists.specs.Inner.{shared, either, apart}
use Rattle.lists.proofs.Apart.{apart-rows, rows_apart}
use Rattle.lists.proofs.Combining.{length-combined, row_at-combined_any}
use Rattle.lists.proofs.Operations.{either_bits}
use Rattle.blocks.specs.Inner.{Limits}
use Rattle.blocks.specs.Audit.{sound_lists}
use Rattle.audit_value.proofs.SoundLists.{sound_parts, sound_current}
use Rattle.blocks.proofs.WholeLists.{length-current}
use Rattle.memory.specs.Memory.{sizes_of, block_at, rows_in, every, holders_of}
use Rattle.memory.specs.declared.header.Header.{Header}
use Rattle.groups.proofs.Tests.{same_test}
use Rattle.fence_records.proofs.Every.{every_holds, holds_every}

-- ---- the rows of the first values

-- the groups of the rows that some of the first values have
abbrev pub taken_before : Header → List ℕ → ℕ → List ℕ
taken_before header words zero = replicate (sizes_of header).groups 0
taken_before header words (suc value) = combined either (taken_before header words value) (rows_in (sizes_of header) words value)

-- whether each of the first values has no row that one before it has
abbrev pub apart_up_to : Header → List ℕ → ℕ → Bool
apart_up_to header words zero = true
apart_up_to header words (suc value) = apart_up_to header words value && apart (taken_before header words value) (rows_in (sizes_of header) words value)

-- one value that is not apart is enough
pub apart_stops : (header : Header) (words : List ℕ) (values value : ℕ) → value < values
    → apart (taken_before header words value) (rows_in (sizes_of header) words value) ≡ false → apart_up_to header words values ≡ false
apart_stops header words zero value h e = absurd (omega arith)
apart_stops header words (suc values) value h e = go (ltb value values) refl (λ before. apart_stops header words values value before e)
  where
    go : (t : Bool) → ltb value values ≡ t → (value < values → apart_up_to header words values ≡ false) → apart_up_to header words (suc values) ≡ false
    go true p before = rw (before (ltb-true value values p)) refl
    go false p before =
        let last : value ≡ values = omega (arith, ltb-false value values p) in
        rw (rw last at e, and-false) refl

-- ---- so many holders and one bit more

-- 1 where there is a holder
abbrev held : ℕ → ℕ
held zero = 0
held (suc count) = 1

held_some : (count : ℕ) → 0 < count → held count ≡ 1
held_some zero h = absurd (omega arith)
held_some (suc count) h = refl

either-bit : (count bit : ℕ) → bit < 2 → answer either (held count) bit ≡ held (count + bit)
either-bit zero zero h = refl
either-bit zero (suc zero) h = refl
either-bit zero (suc (suc bit)) h = absurd (omega arith)
either-bit (suc count) zero h = sym (held_some (suc count + 0) (omega arith))
either-bit (suc count) (suc bit) h = sym (held_some (suc count + suc bit) (omega arith))

shared-bit : (count bit : ℕ) → bit < 2 → answer shared (held count) bit ≡ 0 → count ≤ 1 → count + bit ≤ 1
shared-bit zero bit h e few = omega arith
shared-bit (suc count) zero h e few = omega arith
shared-bit (suc count) (suc bit) h e few = absurd (omega (arith, e))

bit-shared : (count bit : ℕ) → count + bit ≤ 1 → answer shared (held count) bit ≡ 0
bit-shared zero zero few = refl
bit-shared zero (suc bit) few = refl
bit-shared (suc count) zero few = refl
bit-shared (suc count) (suc bit) few = absurd (omega arith)

shared-none : (count : ℕ) → answer shared (held count) 0 ≡ 0
shared-none zero = refl
shared-none (suc count) = refl

-- ---- row by row

-- each of the first values has sound lists
abbrev pub SoundUpTo : Header → List ℕ → ℕ → Type 0
SoundUpTo header words values = (value : ℕ) → value < values → sound_lists (sizes_of header) header.issued (block_at (sizes_of header) words value) ≡ true

module _ (header : Header) (words : List ℕ) (limits : Limits (sizes_of header)) where
  sound_before : (values : ℕ) → SoundUpTo header words (suc values) → SoundUpTo header words values
  sound_before values is_sound value h = is_sound value (omega arith)

  rows_in_long : (values value : ℕ) → SoundUpTo header words values → value < values → length (rows_in (sizes_of header) words value) ≡ (sizes_of header).groups
  unfolding rows_in
  rows_in_long values value is_sound h =
      length-current (sizes_of header) limits (block_at (sizes_of header) words value)
      (sound_parts (sizes_of header) header.issued (block_at (sizes_of header) words value) (is_sound value h)).whole

  -- no value has a row that is not issued
  rows_in_clear : (values value row : ℕ) → SoundUpTo header words values → value < values → header.issued ≤ row → row_at (rows_in (sizes_of header) words value) row ≡ 0
  unfolding rows_in
  rows_in_clear values value row is_sound h past =
      clear_from-row_at header.issued (rows_in (sizes_of header) words value)
      (sound_current (sizes_of header) header.issued (block_at (sizes_of header) words value) limits (is_sound value h)) row past

  pub taken_long : (values : ℕ) → SoundUpTo header words values → length (taken_before header words values) ≡ (sizes_of header).groups
  taken_long zero is_sound = length-replicate (sizes_of header).groups 0
  taken_long (suc values) is_sound =
      let before = taken_long values (sound_before values is_sound) in
      length-combined either (taken_before header words values) (rows_in (sizes_of header) words values)
      (before ∙ sym (rows_in_long (suc values) values is_sound (omega arith)))
      ∙ before

  taken_same : (values : ℕ) → SoundUpTo header words (suc values) → length (taken_before header words values) ≡ length (rows_in (sizes_of header) words values)
  taken_same values is_sound = taken_long values (sound_before values is_sound) ∙ sym (rows_in_long (suc values) values is_sound (omega arith))

  -- a row is taken where it has a holder
  row_at_taken : (values row : ℕ) → SoundUpTo header words values → row_at (taken_before header words values) row ≡ held (holders_of (sizes_of header) words row values)
  row_at_taken zero row is_sound = row_at-zeros (sizes_of header).groups row
  row_at_taken (suc values) row is_sound =
      row_at-combined_any either either_bits (taken_before header words values) (rows_in (sizes_of header) words values) row (taken_same values is_sound) refl
      ∙ ap (λ (bit : ℕ). answer either bit (row_at (rows_in (sizes_of header) words values) row)) (row_at_taken values row (sound_before values is_sound))
      ∙ either-bit (holders_of (sizes_of header) words row values) (row_at (rows_in (sizes_of header) words values) row) (omega arith)

  apart-few : (values : ℕ) → SoundUpTo header words values → apart_up_to header words values ≡ true → (row : ℕ) → holders_of (sizes_of header) words row values ≤ 1
  apart-few zero is_sound e row = omega arith
  apart-few (suc values) is_sound e row =
      let both = (and-eq-true_iff (apart_up_to header words values) (apart (taken_before header words values) (rows_in (sizes_of header) words values))).0 e in
      shared-bit (holders_of (sizes_of header) words row values) (row_at (rows_in (sizes_of header) words values) row) (omega arith)
      (rw (row_at_taken values row (sound_before values is_sound)) at
      (apart-rows (taken_before header words values) (rows_in (sizes_of header) words values) (taken_same values is_sound) both.1 row))
      (apart-few values (sound_before values is_sound) both.0 row)

  few-apart : (values : ℕ) → SoundUpTo header words values → ((row : ℕ) → row < header.issued → holders_of (sizes_of header) words row values ≤ 1)
      → apart_up_to header words values ≡ true
  few-apart zero is_sound few = refl
  few-apart (suc values) is_sound few =
      rw (
        few-apart values (sound_before values is_sound) (λ row h. omega (arith, few row h)),
        rows_apart (taken_before header words values) (rows_in (sizes_of header) words values) (taken_same values is_sound) none,
      )
      refl
    where
      none : (row : ℕ) → answer shared (row_at (taken_before header words values) row) (row_at (rows_in (sizes_of header) words values) row) ≡ 0
      none row = rw (row_at_taken values row (sound_before values is_sound)) (go (ltb row header.issued) refl)
        where
          go : (t : Bool) → ltb row header.issued ≡ t
              → answer shared (held (holders_of (sizes_of header) words row values)) (row_at (rows_in (sizes_of header) words values) row) ≡ 0
          go true p = bit-shared (holders_of (sizes_of header) words row values) (row_at (rows_in (sizes_of header) words values) row) (few row (ltb-true row header.issued p))
          go false p =
              rw (rows_in_clear (suc values) values row is_sound (omega arith) (ltb-false row header.issued p)) (shared-none (holders_of (sizes_of header) words row values))

  -- THEOREM: the first values, each apart from those before it, have every issued row at most once, and back
  pub apart-holders : (values : ℕ) → SoundUpTo header words values
      → apart_up_to header words values ≡ every header.issued (λ row. leb (holders_of (sizes_of header) words row values) 1)
  apart-holders values is_sound =
      same_test (apart_up_to header words values) (every header.issued (λ row. leb (holders_of (sizes_of header) words row values) 1))
      (λ e. holds_every header.issued (λ row. leb (holders_of (sizes_of header) words row values) 1)
      (λ row h. le-leb (holders_of (sizes_of header) words row values) 1 (apart-few values is_sound e row)))
      (λ e. few-apart values is_sound
      (λ row h. leb-true (holders_of (sizes_of header) words row values) 1 (every_holds header.issued (λ row. leb (holders_of (sizes_of header) words row values) 1) e row h)))
