-- Two lists of groups that are apart, row by row. Assumes nothing.
use mathlib.Core.Path.{◌≡◌, refl, ◌∙◌, sym}
use mathlib.Core.Bool.{true}
use mathlib.Core.List.{List}
use Prim.Native.Nat.{ℕ, zero-le}
use lib.ListN.{length}
use Rattle.groups.specs.Rows.{row_at, clear_from}
use Rattle.groups.proofs.Tail.{clear_all, clear_from-row_at, row_at-clear_from}
use Rattle.lists.specs.Combine.{answer, combined}
use Rattle.lists.specs.Inner.{shared, apart}
use Rattle.lists.proofs.Operations.{shared_bits}
use Rattle.lists.proofs.Combining.{combined-lt, row_at-combined_any}

module _ (xs ys : List ℕ) (same : length xs ≡ length ys) where
  apart_clear : apart xs ys ≡ clear_from 0 (combined shared xs ys)
  unfolding apart
  apart_clear = sym (clear_all (combined shared xs ys) (combined-lt shared shared_bits xs ys))

  -- THEOREM: two lists are apart exactly where no row is 1 in both
  pub apart-rows : apart xs ys ≡ true → (row : ℕ) → answer shared (row_at xs row) (row_at ys row) ≡ 0
  apart-rows e row =
      sym (row_at-combined_any shared shared_bits xs ys row same refl) ∙ clear_from-row_at 0 (combined shared xs ys) (sym apart_clear ∙ e) row zero-le

  pub rows_apart : ((row : ℕ) → answer shared (row_at xs row) (row_at ys row) ≡ 0) → apart xs ys ≡ true
  rows_apart none =
      apart_clear
      ∙ row_at-clear_from 0 (combined shared xs ys) (λ row h. row_at-combined_any shared shared_bits xs ys row same refl ∙ none row)
