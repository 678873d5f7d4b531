-- Dump's loops: one round of each. Assumes nothing.
use mathlib.Core.Path.{◌≡◌, refl, ◌∙◌, sym}
use mathlib.Core.Bool.{Bool, true, false, ◌&&◌}
use mathlib.Core.List.{List}
use Prim.Native.Nat.{ℕ, zero, suc, ◌+◌, ◌-◌, ◌≤◌}
use native.Mathlib.Nat.{add-zero, add-suc}
use native.Mathlib.Numerals.{add-one}
use native.Mathlib.Omega.{arith}
use Rattle.memory.specs.Memory.{Memory, sizes_of, block_at}
use Rattle.groups.specs.Rows.{groups_for}
use Rattle.blocks.specs.Sizes.{fences_for}
use Rattle.dump_spans.specs.Inner.{fence_holds, fence_marked, fence_number, turn_holds, marked_fences, fences_hold, marked_values, values_hold}
use Rattle.blocks.specs.declared.sizes.Sizes.{Sizes}
use Rattle.memory.specs.declared.header.Header.{Header}
use Rattle.block_read.specs.declared.fence.Fence.{Fence}

-- ---- answers

-- an answer that goes on with one test more at each number stays false once it is
module _ (answer test : ℕ → Bool) (goes_on : (number : ℕ) → answer (suc number) ≡ answer number && test number) where
  further : (more number : ℕ) → answer number ≡ false → answer (number + more) ≡ false
  further zero number fails = rw add-zero fails
  further (suc more) number fails = rw (add-suc, goes_on (number + more), further more number fails) refl

  stays_false : (number count : ℕ) → number ≤ count → answer number ≡ false → answer count ≡ false
  stays_false number count h fails =
      let rest : number + (count - number) ≡ count = omega arith in
      rw rest at (further (count - number) number fails)

-- ---- one round of the loop over the fences of a value

module _ (header : Header) (memory : Memory) (value : ℕ) (rows₀ : List ℕ) where
  -- the promise of `mark_fence`, with the header's sizes and the value's fence j
  module _ (sizes : Sizes) (planned : sizes ≡ sizes_of header) (fence : Fence) (j : ℕ) (found : fence ≡ fence_number (sizes_of header) memory value j)
      (rows : List ℕ) (reached : rows ≡ marked_fences header memory value rows₀ j) where
    pub next_fence_holds : fences_hold header memory value rows₀ j ≡ true → (r : Bool)
        → r ≡ fence_holds sizes fence (block_at sizes memory.words value) header.issued j rows
        → fences_hold header memory value rows₀ (j + 1) ≡ r
    next_fence_holds held r e = rw (add-one j, held, ← reached) (sym (e ∙ rw (planned, found) refl))

    pub next_fence_marked : (left : List ℕ)
        → left ≡ fence_marked sizes fence (block_at sizes memory.words value) header.issued j value rows
        → left ≡ marked_fences header memory value rows₀ (j + 1)
    next_fence_marked left e = e ∙ rw (add-one j, planned, found, reached) refl

  -- damage at a fence is damage of the value
  pub fences_stop : (j count : ℕ) → j ≤ count → fences_hold header memory value rows₀ j ≡ false → fences_hold header memory value rows₀ count ≡ false
  fences_stop =
      stays_false (fences_hold header memory value rows₀) (λ j. turn_holds header memory value (marked_fences header memory value rows₀ j) j) (λ j. refl)

-- ---- one round of the loop over the values

module _ (header : Header) (memory : Memory) (rows₀ : List ℕ) where
  module _ (rows : List ℕ) (value : ℕ) (reached : rows ≡ marked_values header memory rows₀ value) where
    pub next-value_holds : values_hold header memory rows₀ value ≡ true → (r : Bool)
        → r ≡ fences_hold header memory value rows (fences_for (groups_for header.issued) header.spacing) → values_hold header memory rows₀ (value + 1) ≡ r
    next-value_holds held r e = rw (add-one, held, ← reached) (sym e)

    pub next-value_marked : (left : List ℕ) → left ≡ marked_fences header memory value rows (fences_for (groups_for header.issued) header.spacing)
        → left ≡ marked_values header memory rows₀ (value + 1)
    next-value_marked left e = e ∙ rw (add-one, ← reached) refl

  -- damage in a value is damage of the Dump
  pub values_stop : (value count : ℕ) → value ≤ count → values_hold header memory rows₀ value ≡ false → values_hold header memory rows₀ count ≡ false
  values_stop =
      stays_false (values_hold header memory rows₀)
      (λ value. fences_hold header memory value (marked_values header memory rows₀ value) (fences_for (groups_for header.issued) header.spacing)) (λ value. refl)
