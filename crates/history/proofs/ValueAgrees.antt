-- Value on an index that agrees with a plain column: both say the same, few words are opened, and nothing changes. Assumes nothing.
use mathlib.Core.Path.{◌≡◌, refl, ◌∙◌, ap, sym}
use mathlib.Core.Bool.{true}
use mathlib.Core.Logic.{⊎_elim}
use mathlib.Core.List.{[]}
use Prim.Native.Nat.{ℕ, ◌<◌, ◌≤◌}
use native.Mathlib.Omega.{arith}
use lib.Dec.{leb}
use lib.ListN.{length}
use borrow.Author.Tests.{leb-false}
use Rattle.answers.specs.declared.Refusal.TheVariants.{NoRow}
use Rattle.memory.specs.Memory.{Memory}
use Rattle.memory.specs.Reading.{row_of, refused_value, ValuePaper, value_paper}
use Rattle.memory.specs.declared.header.Header.{Header}
use Rattle.memory.proofs.RowLaws.{row_opened}
use Rattle.index.specs.Soundness.{Sound}
use Rattle.index.specs.Calls.{value_outcome}
use Rattle.history.specs.Calls.{Value, row_said, replied}
use Rattle.history.specs.Plain.{Plain, header_of, byte_at, PlainReply, state_of, plainly}
use Rattle.history.specs.History.{opened_limit, Agrees, Good}
use Rattle.history.proofs.Agreeing.{over, row_live, row_deleted}
use Rattle.history.proofs.Matching.{header_stays}
use Rattle.history.proofs.ReadingAgrees.{FindsLive, FindsDeleted, finds_row}
use Rattle.history.proofs.Sound.{sound_lent}
use Rattle.history.proofs.SoundValue.{value_live, value_deleted, value_answers}
use Rattle.history.proofs.Tests.{either}

module _ (plain : Plain) (memory : Memory) (agrees : Agrees (over plain memory) plain) where
  abbrev header : Header
  header = header_of plain

  s : Sound (header_of plain) memory
  s = agrees.sound

  -- what Value answers of a row that is not issued, and of one that is
  value_refused : (row : ℕ) → leb (length plain.column) row ≡ true → value_outcome (header_of plain) memory row ≡ value_paper (refused_value NoRow)
  unfolding value_outcome
  value_refused row refused = rw (s.within, sound_lent header memory s, refused) refl

  pub record Finds (row : ℕ) : Type 0 where
    pub states : row_said (value_outcome (header_of plain) memory row) ≡ state_of (byte_at plain.column row)
    pub opens : (value_outcome (header_of plain) memory row).opened ≡ (row_of (header_of plain) memory row).opened

  pub value_finds : (row : ℕ) → row < length plain.column → Finds row
  value_finds row h =
      ⊎_elim
      (λ (finds : FindsLive plain memory agrees row h).
      let found = value_live header memory s row h (byte_at plain.column row) finds.live (row_live plain memory agrees row finds.live) in
      record { states = ap row_said found ∙ rw finds.not_gone refl; opens = ap (λ (paper : ValuePaper). paper.opened) found })
      (λ (finds : FindsDeleted plain memory agrees row h).
      let found = value_deleted header memory s row h (row_deleted plain memory agrees row finds.deleted) in
      record { states = ap row_said found ∙ rw finds.gone refl; opens = ap (λ (paper : ValuePaper). paper.opened) found })
      (finds_row plain memory agrees row h)

  -- both say the same, and the column stays
  value_is : (row : ℕ) → plainly plain (Value row) ≡ record { said = row_said (value_outcome (header_of plain) memory row); output = []; next = plain }
  value_is row =
      either (leb (length plain.column) row)
      (λ refused. rw (refused, value_refused row refused) refl)
      (λ taken. rw (taken, (value_finds row (leb-false (length plain.column) row taken)).states) refl)

  value_opens : (row : ℕ) → (value_outcome (header_of plain) memory row).opened ≤ opened_limit plain
  value_opens row =
      either (leb (length plain.column) row)
      (λ refused. rw (value_refused row refused) (omega arith))
      (λ taken. rw (value_finds row (leb-false (length plain.column) row taken)).opens (row_opened header memory row))

  -- THEOREM: a refused Value opens no words
  pub refused_opens : (row : ℕ) → ((value_outcome (header_of plain) memory row).number ≡ 0 → ⊥) → (value_outcome (header_of plain) memory row).opened ≡ 0
  refused_opens row refused =
      either (leb (length plain.column) row)
      (λ unissued. ap (λ (paper : ValuePaper). paper.opened) (value_refused row unissued))
      (λ taken. absurd (refused (value_answers header memory s row (leb-false (length plain.column) row taken))))

  -- THEOREM: Value is good
  pub value_good : (row : ℕ) → Good (over plain memory) plain (Value row)
  unfolding replied
  value_good row =
      record {
        says = sym (ap (λ (reply : PlainReply). reply.said) (value_is row));
        writes = sym (ap (λ (reply : PlainReply). reply.output) (value_is row));
        opens = value_opens row;
        agrees = rw (value_is row, header_stays (value_outcome header memory row).number header) agrees;
      }
