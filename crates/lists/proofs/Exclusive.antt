-- The XOR of some groups the other way round, with zeros, and with groups of which a row is turned over. Assumes nothing.
use mathlib.Core.Path.{◌≡◌, refl, ◌∙◌, sym}
use mathlib.Core.Bool.{Bool, true, false}
use mathlib.Core.List.{List}
use Prim.Native.Nat.{ℕ, suc, zero, ◌-◌, ◌/◌, ◌<◌}
use native.Mathlib.Omega.{arith}
use lib.Dec.{eqb}
use lib.ListN.{length, replicate, length-replicate}
use borrow.Author.Tests.{eqb-true, eqb-false}
use Rattle.groups.specs.Rows.{row_at}
use Rattle.groups.proofs.Groups.{row_at-zeros}
use Rattle.words.proofs.Round.{Groups}
use Rattle.groups.proofs.RowsBack.{same_groups}
use Rattle.lists.specs.Combine.{exclusive, answer, combined}
use Rattle.lists.specs.OneRow.{turned_over}
use Rattle.lists.proofs.Combining.{length-combined, combined-lt, row_at-combined_any}
use Rattle.lists.proofs.Operations.{exclusive_bits, turns}
use Rattle.lists.proofs.TurningOver.{length-turned_over, turned_over-lt, row_at-turned_over, row_at-turned_over_other}

-- ---- the other way round

answer_comm : (left right : ℕ) → answer exclusive left right ≡ answer exclusive right left
answer_comm zero zero = refl
answer_comm zero (suc right) = refl
answer_comm (suc left) zero = refl
answer_comm (suc left) (suc right) = refl

xor_comm : (xs ys : List ℕ) → length xs ≡ length ys → combined exclusive xs ys ≡ combined exclusive ys xs
xor_comm xs ys same =
    same_groups (combined exclusive xs ys) (combined exclusive ys xs) (combined-lt exclusive exclusive_bits xs ys) (combined-lt exclusive exclusive_bits ys xs)
    (length-combined exclusive xs ys same ∙ same ∙ sym (length-combined exclusive ys xs (sym same)))
    (λ row. row_at-combined_any exclusive exclusive_bits xs ys row same refl
    ∙ answer_comm (row_at xs row) (row_at ys row)
    ∙ sym (row_at-combined_any exclusive exclusive_bits ys xs row (sym same) refl))

-- ---- with zeros

-- THEOREM: an XOR with zeros changes nothing
pub xor-zeros : (count : ℕ) (groups : List ℕ) → Groups groups → length groups ≡ count → combined exclusive groups (replicate count 0) ≡ groups
xor-zeros count groups small long =
    same_groups (combined exclusive groups zeros) groups (combined-lt exclusive exclusive_bits groups zeros) small
    (length-combined exclusive groups zeros same)
    (λ row. row_at-combined_any exclusive exclusive_bits groups zeros row same refl ∙ rw (row_at-zeros count row) (turns (row_at groups row) (omega arith)).1)
  where
    zeros : List ℕ
    zeros = replicate count 0

    same : length groups ≡ length {A = ℕ} (replicate count 0)
    same = long ∙ sym (length-replicate count 0)

pub zeros-xor : (count : ℕ) (groups : List ℕ) → Groups groups → length groups ≡ count → combined exclusive (replicate count 0) groups ≡ groups
zeros-xor count groups small long = xor_comm (replicate count 0) groups (length-replicate count 0 ∙ sym long) ∙ xor-zeros count groups small long

-- ---- with a row turned over

answer-turned : (left right : ℕ) → left < 2 → right < 2 → answer exclusive left (1 - right) ≡ 1 - answer exclusive left right
answer-turned zero zero h k = refl
answer-turned zero (suc zero) h k = refl
answer-turned (suc zero) zero h k = refl
answer-turned (suc zero) (suc zero) h k = refl
answer-turned zero (suc (suc right)) h k = absurd (omega arith)
answer-turned (suc zero) (suc (suc right)) h k = absurd (omega arith)
answer-turned (suc (suc left)) right h k = absurd (omega arith)

module _ (row : ℕ) (xs ys : List ℕ) (same : length xs ≡ length ys) (within : row / 31 < length xs) where
  both : List ℕ
  both = combined exclusive xs ys

  length_both : length both ≡ length xs
  unfolding both
  length_both = length-combined exclusive xs ys same

  row_at_both : (other : ℕ) → row_at both other ≡ answer exclusive (row_at xs other) (row_at ys other)
  unfolding both
  row_at_both other = row_at-combined_any exclusive exclusive_bits xs ys other same refl

  same_turned : length xs ≡ length (turned_over row ys)
  same_turned = same ∙ sym (length-turned_over row ys)

  row_at_turns : (other : ℕ) → answer exclusive (row_at xs other) (row_at (turned_over row ys) other) ≡ row_at (turned_over row both) other
  row_at_turns other = go (eqb other row) refl
    where
      go : (t : Bool) → eqb other row ≡ t → answer exclusive (row_at xs other) (row_at (turned_over row ys) other) ≡ row_at (turned_over row both) other
      go true e =
          rw (eqb-true other row e, row_at-turned_over row ys (omega arith), row_at-turned_over row both (omega (arith, length_both)), row_at_both row)
          (answer-turned (row_at xs row) (row_at ys row) (omega arith) (omega arith))
      go false e =
          let there = eqb-false other row e in
          rw (row_at-turned_over_other row ys other there, row_at-turned_over_other row both other there) (sym (row_at_both other))

  -- THEOREM: a row turned over on one side of an XOR is turned over in it
  pub xor-turned_over : combined exclusive xs (turned_over row ys) ≡ turned_over row (combined exclusive xs ys)
  unfolding both
  xor-turned_over =
      same_groups (combined exclusive xs (turned_over row ys)) (turned_over row both)
      (combined-lt exclusive exclusive_bits xs (turned_over row ys)) (turned_over-lt row both)
      (length-combined exclusive xs (turned_over row ys) same_turned ∙ sym (length-turned_over row both ∙ length_both))
      (λ other. row_at-combined_any exclusive exclusive_bits xs (turned_over row ys) other same_turned refl ∙ row_at_turns other)
