-- What an accepted Query wrote, row by row: demand 2's sentence on Query. Assumes nothing.
use mathlib.Core.Path.{◌≡◌, refl, ◌∙◌, ap}
use mathlib.Core.Bool.{true}
use mathlib.Core.Logic.{◌↔◌}
use mathlib.Core.List.{List}
use Prim.Native.Nat.{ℕ, zero, suc, ◌<◌}
use native.Mathlib.Omega.{arith}
use lib.ListN.{length, take, drop}
use lib.Seq.{take-append_seam}
use borrow.Author.Tests.{leb-false, not-false}
use Rattle.answers.specs.Outcome.{Outcome}
use Rattle.answers.proofs.Accepted.{accepted, passes_done}
use Rattle.groups.specs.Rows.{row_at}
use Rattle.words.specs.Words.{decode}
use Rattle.lists.specs.Combine.{exclusive, answer}
use Rattle.blocks.specs.Block.{value_list, update_list}
use Rattle.blocks.proofs.WholeLists.{row_at-current, decode-current}
use Rattle.memory.specs.Memory.{Memory, within_limits, sizes_of, block_at, rows_in}
use Rattle.memory.specs.declared.header.Header.{Header}
use Rattle.memory.proofs.Headers.{within, within_limits_lem}
use Rattle.change_value.specs.Change.{whole}
use Rattle.index.specs.Calls.{query_list, query_checks, query_outcome}
use Rattle.history.specs.Corollaries.{QueryDiffers}

-- two bits differ exactly where the answer for them is 1
differ_exactly : (a b : ℕ) → a < 2 → b < 2 → (answer exclusive a b ≡ 1) ↔ (a ≡ b → ⊥)
differ_exactly zero zero h l = (λ one. absurd (omega arith), λ differ. absurd (differ refl))
differ_exactly zero (suc b) h l = (λ one same. omega arith, λ differ. refl)
differ_exactly (suc a) zero h l = (λ one same. omega arith, λ differ. refl)
differ_exactly (suc a) (suc b) h l = (λ one. absurd (omega arith), λ differ. absurd (differ (omega arith)))

module _ (header : Header) (memory : Memory) (value : ℕ) (out : List ℕ) (ok : (query_outcome header memory value out).answer.number ≡ 0) where
  -- what an accepted Query says of the index
  record Accepted : Type 0 where
    pub within : within_limits header ≡ true
    pub below : value < header.values
    pub is_whole : whole (sizes_of header) memory.words value ≡ true
    pub writes : take (query_outcome header memory value out).answer.count (query_outcome header memory value out).output ≡ query_list header memory value

  says : Accepted
  unfolding query_outcome
  says =
      let list = query_list header memory value in
      let checks = query_checks header memory value out in
      let passes = accepted checks list out ok in
      record {
        within = not-false (within_limits header) passes.0;
        below = leb-false header.values value passes.1.1.0;
        is_whole = not-false (whole (sizes_of header) memory.words value) passes.1.1.1.0;
        writes = ap (λ (outcome : Outcome). take outcome.answer.count outcome.output) (passes_done checks list out passes)
            ∙ take-append_seam list (drop (length list) out);
      }

  -- THEOREM: what is written stands for V xor U of a value below d
  pub query_below : value < header.values
  query_below = says.below

  pub query_writes : decode (take (query_outcome header memory value out).answer.count (query_outcome header memory value out).output)
      ≡ rows_in (sizes_of header) memory.words value
  unfolding query_list whole rows_in
  query_writes =
      let block = block_at (sizes_of header) memory.words value in
      rw says.writes (decode-current (sizes_of header) (within_limits_lem header (within header says.within)) block says.is_whole)

  -- THEOREM: a row of V xor U is 1 exactly where its bits in V and U differ
  pub rows_differ : (row : ℕ) → (row_at (rows_in (sizes_of header) memory.words value) row ≡ 1)
      ↔ (row_at (decode (value_list (sizes_of header) (block_at (sizes_of header) memory.words value))) row
      ≡ row_at (decode (update_list (sizes_of header) (block_at (sizes_of header) memory.words value))) row
      → ⊥)
  unfolding whole rows_in
  rows_differ row =
      let sizes = sizes_of header in
      let block = block_at (sizes_of header) memory.words value in
      rw (row_at-current sizes (within_limits_lem header (within header says.within)) block says.is_whole row)
      (differ_exactly (row_at (decode (value_list sizes block)) row) (row_at (decode (update_list sizes block)) row) (omega arith) (omega arith))

-- THEOREM: demand 2's sentence on Query
pub query_differs : QueryDiffers
query_differs index value out ok row =
    rw (query_writes index.header index.memory value out ok) (rows_differ index.header index.memory value out ok row)
