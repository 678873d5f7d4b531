-- A flip on an index that agrees with a plain column: both agree again where the column has its new byte at the row and the others as before.
-- A row inserted, a row deleted, and a deleted row put into a value. Assumes nothing.
use mathlib.Core.Path.{◌≡◌, refl, ◌∙◌, sym}
use mathlib.Core.Bool.{true, cond}
use mathlib.Core.List.{List, [], ◌∷◌, ◌++◌}
use Prim.Native.Nat.{ℕ, ◌<◌}
use native.Mathlib.Omega.{arith}
use lib.Dec.{eqb}
use lib.ListN.{length, set, length-append, length-set}
use lib.Seq.{get_or-set_same, get_or-set_other}
use borrow.Author.Tests.{ne_eqb}
use Rattle.groups.specs.Rows.{row_at}
use Rattle.memory.specs.Memory.{Memory, sizes_of, rows_in}
use Rattle.memory.specs.Entry.{valid_column, grown}
use Rattle.memory.specs.declared.header.Header.{Header}
use Rattle.change_value.specs.Change.{flipped_in}
use Rattle.index.specs.Soundness.{Sound}
use Rattle.history.specs.Calls.{index_of}
use Rattle.history.specs.Plain.{Plain, header_of, with_column, byte_at}
use Rattle.history.specs.History.{Agrees}
use Rattle.history.proofs.Agreeing.{over, row_fits, value-small, row_live, row_deleted}
use Rattle.history.proofs.ColumnBytes.{valid_value, valid_deleted, valid_append, valid_set, byte_appended, byte_elsewhere}
use Rattle.history.proofs.Sound.{sound_clear}
use Rattle.history.proofs.SoundAfter.{issuing}
use Rattle.history.proofs.SoundFlip.{flip_replaces, flip_bit_other, flip_lone, insert_sound, remove_sound, remove_clears, add_sound}
use Rattle.history.proofs.Tests.{of_each}

module _ (plain : Plain) (memory : Memory) (agrees : Agrees (over plain memory) plain) where
  abbrev header : Header
  header = header_of plain

  s : Sound (header_of plain) memory
  s = agrees.sound

  module _ (value : ℕ) (h : value < plain.values) (row : ℕ) (inside : row < plain.rows) where
    abbrev after : Memory
    after = flipped_in (sizes_of header) memory value row

    -- a row in the column's value alone
    abbrev HasByte : List ℕ → ℕ → ℕ → Type 0
    HasByte column there each = row_at (rows_in (sizes_of header) after.words each) there ≡ cond (eqb (byte_at column there) each) 1 0

    -- the flip of a row, and another byte there
    flip_agrees : (column : List ℕ) → valid_column plain.values column ≡ true
        → ((there : ℕ) → (there ≡ row → ⊥) → byte_at column there ≡ byte_at plain.column there)
        → Sound (issuing header (length column)) after
        → ((each : ℕ) → each < plain.values → HasByte column row each)
        → Agrees (index_of (issuing header (length column)) after) (with_column plain column)
    flip_agrees column valid same sound here =
        let replaces = flip_replaces header memory s value h row inside in
        record {
          header = refl;
          words = replaces.words.long ∙ agrees.words;
          fences = replaces.long_fences ∙ agrees.fences;
          sound = sound;
          bytes = valid;
          rows = λ there each l.
              of_each row (λ there. HasByte column there each) (here each l)
              (λ there differ.
              let elsewhere : there ≡ row → ⊥ = λ e. differ (sym e) in
              rw (same there elsewhere, flip_bit_other header memory s value h row inside there elsewhere each) (agrees.rows there each l))
              there;
        }

  -- ---- Insert

  -- THEOREM: row n flipped in a value is the column with the value at its end
  pub inserted_agrees : (value : ℕ) → value < plain.values → length plain.column < plain.rows
      → Agrees (index_of (grown header) (flipped_in (sizes_of header) memory value (length plain.column)))
      (with_column plain (plain.column ++ value ∷ []))
  inserted_agrees value h room =
      let row = length plain.column in
      let longer = plain.column ++ value ∷ [] in
      rw (length-append plain.column (value ∷ [])) at
      (flip_agrees value h row room longer
      (valid_append plain.values plain.column value agrees.bytes (valid_value plain.values value h))
      (byte_elsewhere plain.column value)
      (rw (length-append plain.column (value ∷ [])) (insert_sound header memory s value h room))
      (rw (byte_appended plain.column value) (flip_lone header memory s value h row room (λ each l. sound_clear header memory s each l row (omega arith)))))

  -- ---- Delete and Update

  module _ (row : ℕ) (below : row < length plain.column) where
    inside : row < plain.rows
    inside = row_fits plain memory agrees row below

    -- THEOREM: a live row flipped in its value is the column with the row deleted
    pub removed_agrees : byte_at plain.column row < plain.values
        → Agrees (index_of header (flipped_in (sizes_of header) memory (byte_at plain.column row) row)) (with_column plain (set plain.column row 255))
    removed_agrees live =
        let byte = byte_at plain.column row in
        let has = row_live plain memory agrees row live in
        rw (length-set plain.column row 255) at
        (flip_agrees byte live row inside (set plain.column row 255)
        (valid_set plain.values plain.column row 255 agrees.bytes (valid_deleted plain.values))
        (λ there. get_or-set_other plain.column row there 255 255)
        (rw (length-set plain.column row 255) (remove_sound header memory s byte live row below has))
        (λ each l. rw (get_or-set_same plain.column row 255 255 below, ne_eqb 255 each (λ same. omega (arith, value-small plain memory agrees each l)))
        (remove_clears header memory s byte live row below has each l)))

    -- THEOREM: a deleted row flipped in a value is the column with the value there
    pub put_agrees : byte_at plain.column row ≡ 255 → (value : ℕ) → value < plain.values
        → Agrees (index_of header (flipped_in (sizes_of header) memory value row)) (with_column plain (set plain.column row value))
    put_agrees gone value h =
        let none = row_deleted plain memory agrees row gone in
        rw (length-set plain.column row value) at
        (flip_agrees value h row inside (set plain.column row value)
        (valid_set plain.values plain.column row value agrees.bytes (valid_value plain.values value h))
        (λ there. get_or-set_other plain.column row there value 255)
        (rw (length-set plain.column row value) (add_sound header memory s value h row below none))
        (rw (get_or-set_same plain.column row value 255 below) (flip_lone header memory s value h row inside none)))
