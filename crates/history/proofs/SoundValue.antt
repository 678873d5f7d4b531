-- Value on a sound index: a row is live in the value that has it, deleted where none has it, and never damaged. Assumes nothing.
use mathlib.Core.Path.{◌≡◌, refl, ◌∙◌, ap}
use mathlib.Core.Logic.{⊎_elim}
use Prim.Native.Nat.{ℕ, ◌<◌}
use native.Mathlib.Omega.{arith}
use borrow.Author.Tests.{lt-leb, eq-eqb, ne_eqb}
use Rattle.groups.specs.Rows.{row_at}
use Rattle.memory.specs.Memory.{Memory, sizes_of, rows_in}
use Rattle.memory.specs.Reading.{row_of, value_of, ValuePaper, state_paper, value_paper}
use Rattle.memory.specs.declared.header.Header.{Header}
use Rattle.memory.specs.declared.row.State.TheVariants.{Live, Deleted}
use Rattle.memory.proofs.Headers.{within}
use Rattle.index.specs.Soundness.{Sound}
use Rattle.index.specs.Calls.{value_outcome}
use Rattle.index.proofs.Holders.{NoHolder, holder_or-none}
use Rattle.history.proofs.Sound.{sound_lent}
use Rattle.history.proofs.SoundReading.{row-found, row-none, row_undamaged}

module _ (header : Header) (memory : Memory) (s : Sound header memory) (row : ℕ) (h : row < header.issued) where
  inside : row < header.rows
  inside = omega (arith, (within header s.within).few_issued)

  value_read : value_outcome header memory row ≡ value_paper (value_of (row_of header memory row))
  unfolding value_outcome
  value_read = rw (s.within, sound_lent header memory s, lt-leb header.issued row h) refl

  -- THEOREM: Value finds a row in the value that has it, and deleted where none has it; there is no damage
  pub value_live : (value : ℕ) → value < header.values → row_at (rows_in (sizes_of header) memory.words value) row ≡ 1
      → value_outcome header memory row ≡ state_paper (Live value) (row_of header memory row).opened
  unfolding value_of
  value_live value l has =
      let found = row-found header memory s row inside value l has in
      value_read
      ∙ rw (row_undamaged header memory s row inside, ne_eqb (row_of header memory row).holders 0 (λ none. omega (arith, found.0)), found.1) refl

  pub value_deleted : NoHolder header memory.words row header.values
      → value_outcome header memory row ≡ state_paper Deleted (row_of header memory row).opened
  unfolding value_of
  value_deleted none =
      value_read ∙ rw (row_undamaged header memory s row inside, eq-eqb (row_of header memory row).holders 0 (row-none header memory s row inside none)) refl

  -- either way Value answers OK
  pub value_answers : (value_outcome header memory row).number ≡ 0
  value_answers =
      ⊎_elim
      (λ holder. ap (λ (paper : ValuePaper). paper.number) (value_live holder.value holder.below holder.has))
      (λ none. ap (λ (paper : ValuePaper). paper.number) (value_deleted none))
      (holder_or-none header memory.words row header.values)
