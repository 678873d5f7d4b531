-- Reading a row of an index that agrees with a plain column: it finds the row's byte, and no damage. Assumes nothing.
use mathlib.Core.Path.{◌≡◌}
use mathlib.Core.Bool.{true, false}
use mathlib.Core.Logic.{◌⊎◌, inl, inr, ⊎_elim}
use Prim.Native.Nat.{ℕ, ◌<◌}
use native.Mathlib.Omega.{arith}
use lib.Dec.{eqb}
use lib.ListN.{length}
use borrow.Author.Tests.{eq-eqb, ne_eqb}
use Rattle.memory.specs.Memory.{Memory}
use Rattle.memory.specs.Reading.{row_of, is_damaged, is_deleted}
use Rattle.history.specs.Plain.{Plain, header_of, byte_at}
use Rattle.history.specs.History.{Agrees}
use Rattle.history.proofs.Agreeing.{over, row_fits, value-small, row_live, row_deleted, live_or_deleted}
use Rattle.history.proofs.SoundReading.{row-found, row-none, row_undamaged}

module _ (plain : Plain) (memory : Memory) (agrees : Agrees (over plain memory) plain) (row : ℕ) (h : row < length plain.column) where
  -- a live row is found in the value of its byte
  pub record FindsLive : Type 0 where
    pub live : byte_at plain.column row < plain.values
    pub not_gone : eqb (byte_at plain.column row) 255 ≡ false
    pub held : is_deleted (row_of (header_of plain) memory row) ≡ false
    pub holder : (row_of (header_of plain) memory row).value ≡ byte_at plain.column row

  -- a deleted row is found in none
  pub record FindsDeleted : Type 0 where
    pub deleted : byte_at plain.column row ≡ 255
    pub gone : eqb (byte_at plain.column row) 255 ≡ true
    pub free : is_deleted (row_of (header_of plain) memory row) ≡ true

  -- THEOREM: one or the other, without damage
  pub finds_undamaged : is_damaged (row_of (header_of plain) memory row) ≡ false
  finds_undamaged = row_undamaged (header_of plain) memory agrees.sound row (row_fits plain memory agrees row h)

  pub finds_row : FindsLive ⊎ FindsDeleted
  finds_row =
      let byte = byte_at plain.column row in
      let inside = row_fits plain memory agrees row h in
      let holders = (row_of (header_of plain) memory row).holders in
      ⊎_elim
      (λ live.
      let found = row-found (header_of plain) memory agrees.sound row inside byte live (row_live plain memory agrees row live) in
      inl
      (record {
        live = live;
        not_gone = ne_eqb byte 255 (λ same. omega (arith, value-small plain memory agrees byte live));
        held = ne_eqb holders 0 (λ none. omega (arith, found.0));
        holder = found.1;
      }))
      (λ deleted.
      let none = row-none (header_of plain) memory agrees.sound row inside (row_deleted plain memory agrees row deleted) in
      inr (record { deleted = deleted; gone = eq-eqb byte 255 deleted; free = eq-eqb holders 0 none }))
      (live_or_deleted plain memory agrees row h)
