-- Query, Dump and Audit on an index that agrees with a plain column: both say and write the same, and nothing changes. Assumes nothing.
use mathlib.Core.Path.{◌≡◌, refl, ◌∙◌, ap, ap₂, sym}
use mathlib.Core.Bool.{true, not}
use mathlib.Core.Logic.{⊎_elim}
use mathlib.Core.List.{List, [], ◌∷◌, ◌++◌}
use Prim.Native.Nat.{ℕ, zero, suc, ◌<◌, ◌≤◌}
use native.Mathlib.Omega.{arith}
use lib.Dec.{leb, ltb}
use lib.ListN.{length, take}
use lib.Seq.{take-length, take-suc}
use borrow.Author.Tests.{leb-false}
use Rattle.answers.specs.Outcome.{◌when◌, Outcome, outcome}
use Rattle.answers.specs.declared.Refusal.TheVariants.{OutSmall}
use Rattle.memory.specs.Memory.{Memory, every}
use Rattle.memory.specs.Reading.{row_of, is_damaged}
use Rattle.memory.specs.declared.header.Header.{Header}
use Rattle.fence_records.proofs.Every.{holds_every}
use Rattle.index.specs.Soundness.{Sound}
use Rattle.index.specs.Calls.{query_list, query_outcome, byte_of, bytes_of, dump_outcome, audit_outcome}
use Rattle.history.specs.Calls.{Call, Query, Dump, Audit, Reply, answering, obey, replied}
use Rattle.history.specs.Plain.{Plain, header_of, byte_at, PlainReply, writing, plain_list, plain_bad_value, plainly}
use Rattle.history.specs.History.{Agrees, Good}
use Rattle.history.proofs.Agreeing.{over, rows_with_lem}
use Rattle.history.proofs.Matching.{header_stays}
use Rattle.history.proofs.ReadingAgrees.{FindsLive, FindsDeleted, finds_undamaged, finds_row}
use Rattle.history.proofs.Sound.{sound_lent, sound_whole, says_sound}
use Rattle.history.proofs.Tests.{either}

module _ (plain : Plain) (memory : Memory) (agrees : Agrees (over plain memory) plain) where
  abbrev header : Header
  header = header_of plain

  s : Sound (header_of plain) memory
  s = agrees.sound

  -- a call that both answer by one outcome is good
  outcome_good : (call : Call) (given : Outcome) → obey (over plain memory) call ≡ answering (over plain memory) given → plainly plain call ≡ writing plain given
      → Good (over plain memory) plain call
  unfolding replied
  outcome_good call given obeys also =
      record {
        says = ap (λ (reply : Reply). reply.said) obeys ∙ sym (ap (λ (reply : PlainReply). reply.said) also);
        writes = ap (λ (reply : Reply). reply.output) obeys ∙ sym (ap (λ (reply : PlainReply). reply.output) also);
        opens = rw obeys (omega arith);
        agrees = rw (obeys, also, header_stays given.answer.number header) agrees;
      }

  -- ---- Query

  query_is : (value : ℕ) (out : List ℕ)
      → query_outcome (header_of plain) memory value out
      ≡ outcome (plain_bad_value plain value ∷ OutSmall when ltb (length out) (length (plain_list plain value)) ∷ []) (plain_list plain value) out
  unfolding query_outcome query_list plain_list
  query_is value out =
      either (leb plain.values value)
      (λ refused. rw (s.within, sound_lent header memory s, refused) refl)
      (λ taken.
      let h = leb-false plain.values value taken in
      rw (
        s.within,
        sound_lent header memory s,
        taken,
        sound_whole header memory s value h,
        rows_with_lem plain memory s value h (λ row. agrees.rows row value h),
      )
      refl)

  -- THEOREM: Query is good
  pub query_good : (value : ℕ) (out : List ℕ) → Good (over plain memory) plain (Query value out)
  query_good value out = outcome_good (Query value out) (query_outcome header memory value out) refl (sym (ap (writing plain) (query_is value out)))

  -- ---- Dump

  -- the byte of a row is what Value finds
  byte_is : (row : ℕ) → row < length plain.column → byte_of (header_of plain) memory row ≡ byte_at plain.column row
  byte_is row h =
      ⊎_elim (λ (finds : FindsLive plain memory agrees row h). rw finds.held finds.holder)
      (λ (finds : FindsDeleted plain memory agrees row h). rw finds.free (sym finds.deleted))
      (finds_row plain memory agrees row h)

  bytes_are_lem : (count : ℕ) → count ≤ length plain.column → bytes_of (header_of plain) memory count ≡ take count plain.column
  bytes_are_lem zero few = refl
  bytes_are_lem (suc row) few =
      ap₂ (λ (bytes : List ℕ) (byte : ℕ). bytes ++ byte ∷ []) (bytes_are_lem row (omega arith)) (byte_is row (omega arith))
      ∙ sym (take-suc plain.column row 255 (omega arith))

  dump_is : (out : List ℕ)
      → dump_outcome (header_of plain) memory out ≡ outcome (OutSmall when ltb (length out) (length plain.column) ∷ []) plain.column out
  unfolding dump_outcome
  dump_is out =
      let undamaged : every (length plain.column) (λ row. not (is_damaged (row_of header memory row))) ≡ true =
      holds_every (length plain.column) (λ row. not (is_damaged (row_of header memory row)))
      (λ row h. ap not (finds_undamaged plain memory agrees row h)) in
      rw (s.within, sound_lent header memory s, undamaged, bytes_are_lem (length plain.column) (omega arith) ∙ take-length plain.column) refl

  -- THEOREM: Dump is good
  pub dump_good : (out : List ℕ) → Good (over plain memory) plain (Dump out)
  dump_good out = outcome_good (Dump out) (dump_outcome header memory out) refl (sym (ap (writing plain) (dump_is out)))

  -- ---- Audit

  audit_is : audit_outcome (header_of plain) memory ≡ record { answer = record { number = 0; count = 0 }; output = [] }
  unfolding audit_outcome
  audit_is = rw (s.within, sound_lent header memory s, says_sound header memory s) refl

  -- THEOREM: Audit is good
  pub audit_good : Good (over plain memory) plain Audit
  audit_good = outcome_good Audit (audit_outcome header memory) refl (sym (ap (writing plain) audit_is))
