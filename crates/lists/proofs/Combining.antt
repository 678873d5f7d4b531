-- Laws of the combination of two lists of groups: group by group, row by row and span by span. Assumes nothing.
use mathlib.Core.Path.{◌≡◌, refl, ◌∙◌, ap, sym}
use mathlib.Core.Logic.{by_cases}
use mathlib.Core.List.{List, [], ◌∷◌, ◌++◌}
use Prim.Native.Nat.{ℕ, suc, zero, ◌*◌, ◌-◌, ◌/◌, ◌%◌, ◌^◌, ◌<◌, ◌≤◌}
use native.Mathlib.Decide.{dec_lt}
use native.Mathlib.Omega.{arith}
use native.Mathlib.Nat.{sub-zero, suc-sub-suc}
use lib.ListN.{length, get_or, replicate}
use Rattle.groups.specs.Rows.{row_at}
use Rattle.groups.proofs.Groups.{row_at-past}
use Rattle.words.proofs.Round.{Groups}
use Rattle.lists.specs.Combine.{Operation, answer, on_group, combined}
use Rattle.lists.proofs.Operations.{GivesBits, on_group-lt, bit-on_group}

module _ (operation : Operation) where
  pub length-combined : (xs ys : List ℕ) → length xs ≡ length ys → length (combined operation xs ys) ≡ length xs
  length-combined [] ys e = refl
  length-combined (x ∷ xs) [] e = absurd (omega arith)
  length-combined (x ∷ xs) (y ∷ ys) e = ap suc (length-combined xs ys (omega arith))

  pub get_or-combined : (xs ys : List ℕ) (i : ℕ) → length xs ≡ length ys → i < length xs
      → get_or (combined operation xs ys) i 0 ≡ on_group operation (get_or xs i 0) (get_or ys i 0)
  get_or-combined [] ys i e h = absurd (omega arith)
  get_or-combined (x ∷ xs) [] i e h = absurd (omega arith)
  get_or-combined (x ∷ xs) (y ∷ ys) zero e h = refl
  get_or-combined (x ∷ xs) (y ∷ ys) (suc i) e h = get_or-combined xs ys i (omega arith) (omega arith)

  pub combined-none : (xs ys : List ℕ) → length xs ≡ 0 → combined operation xs ys ≡ []
  combined-none [] ys e = refl
  combined-none (x ∷ xs) ys e = absurd (omega arith)

  pub combined-append : (xs ys more others : List ℕ) → length xs ≡ length ys
      → combined operation (xs ++ more) (ys ++ others) ≡ combined operation xs ys ++ combined operation more others
  combined-append [] [] more others e = refl
  combined-append [] (y ∷ ys) more others e = absurd (omega arith)
  combined-append (x ∷ xs) [] more others e = absurd (omega arith)
  combined-append (x ∷ xs) (y ∷ ys) more others e = ap (◌∷◌ (on_group operation x y)) (combined-append xs ys more others (omega arith))

  -- a span in front of each list: as many groups as both spans have are one group over and over
  pub combined_spans : (count m n x y : ℕ) (xs ys : List ℕ) → count ≤ m → count ≤ n
      → combined operation (replicate m x ++ xs) (replicate n y ++ ys)
      ≡ replicate count (on_group operation x y) ++ combined operation (replicate (m - count) x ++ xs) (replicate (n - count) y ++ ys)
  combined_spans zero m n x y xs ys h k = rw (sub-zero m, sub-zero n) refl
  combined_spans (suc count) zero n x y xs ys h k = absurd (omega arith)
  combined_spans (suc count) (suc m) zero x y xs ys h k = absurd (omega arith)
  combined_spans (suc count) (suc m) (suc n) x y xs ys h k =
      rw (suc-sub-suc m count, suc-sub-suc n count) (ap (◌∷◌ (on_group operation x y)) (combined_spans count m n x y xs ys (omega arith) (omega arith)))

  module _ (bits : GivesBits operation) where
    pub combined-lt : (xs ys : List ℕ) → Groups (combined operation xs ys)
    combined-lt [] ys i = omega arith
    combined-lt (x ∷ xs) [] i = omega arith
    combined-lt (x ∷ xs) (y ∷ ys) zero = on_group-lt operation bits x y
    combined-lt (x ∷ xs) (y ∷ ys) (suc i) = combined-lt xs ys i

    module _ (xs ys : List ℕ) (row : ℕ) (e : length xs ≡ length ys) where
      -- THEOREM: each row of a combination is the answer for that row of the two lists
      pub row_at-combined : row < 31 * length xs → row_at (combined operation xs ys) row ≡ answer operation (row_at xs row) (row_at ys row)
      row_at-combined h =
          let group = row / 31 in
          let bit = 30 - row % 31 in
          ap (λ (g : ℕ). g / 2 ^ bit % 2) (get_or-combined xs ys group e (omega arith))
          ∙ bit-on_group operation bits bit (get_or xs group 0) (get_or ys group 0) (omega arith)

      -- and past the last row where two zeros make a zero
      pub row_at-combined_any : operation.neither ≡ 0 → row_at (combined operation xs ys) row ≡ answer operation (row_at xs row) (row_at ys row)
      row_at-combined_any none =
          by_cases (dec_lt row (31 * length xs)) row_at-combined
          (λ past.
          let none_in : row_at (combined operation xs ys) row ≡ 0 = row_at-past (combined operation xs ys) row (omega (arith, length-combined xs ys e)) in
          rw (none_in, row_at-past xs row (omega arith), row_at-past ys row (omega arith)) (sym none))
