-- Audit's part for one value: what is asked of its lists, and each way out of tests one after the other. Assumes nothing.
use Rattle.std.specs.Prelude.{Some, None}
use mathlib.Core.Path.{◌≡◌, refl, sym}
use mathlib.Core.Bool.{Bool, true, false, ◌&&◌}
use mathlib.Core.List.{List}
use Prim.Native.Nat.{ℕ, ◌≤◌}
use native.Mathlib.Omega.{arith}
use Rattle.groups.specs.Rows.{row_limit}
use Rattle.lists.specs.Inner.{Covers}
use Rattle.blocks.specs.Inner.{Limits, whole_of}
use Rattle.blocks.specs.Whole.{whole_lists}
use Rattle.blocks.specs.Audit.{clear_lists, unused_zero, sound_lists}
use Rattle.blocks.specs.declared.sizes.Sizes.{Sizes}
use Rattle.blocks.proofs.whole.Verdict.{faulty_whole, intact-whole}

-- what is asked of a slice that is a list of M groups
pub slice_asks : (sizes : Sizes) → Limits sizes → (issued : ℕ) → issued ≤ sizes.rows → (list slice : List ℕ) → Covers sizes.groups list → slice ≡ list
    → Covers sizes.groups slice × (sizes.groups ≤ 4096) × (issued ≤ row_limit)
slice_asks sizes limits issued few list slice covers e = (rw e covers, omega arith, omega arith)

-- ---- two tests: where the first fails they end, and where it holds the second decides

module _ (first second found : Bool) (told : found ≡ first) where
  pub first_fails : found ≡ false → false ≡ (first && second)
  first_fails e = rw (← told, e) refl

  pub second_decides : found ≡ true → (other : Bool) → other ≡ second → other ≡ (first && second)
  second_decides e other f = rw (← told, e, ← f) refl

-- ---- all of them

module _ (sizes : Sizes) (issued : ℕ) (block : List ℕ) where
  pub not-whole : None ≡ whole_of sizes block → false ≡ sound_lists sizes issued block
  unfolding sound_lists
  not-whole e = rw (faulty_whole sizes block e) refl

  module _ (ones : ℕ) (finds : Some ones ≡ whole_of sizes block) (clear : Bool) (answers : clear ≡ clear_lists sizes issued block) where
    so_far : clear ≡ (whole_lists sizes block && clear_lists sizes issued block)
    so_far = second_decides (whole_lists sizes block) (clear_lists sizes issued block) true (sym (intact-whole sizes block ones finds)) refl clear answers

    pub not_clear : clear ≡ false → false ≡ sound_lists sizes issued block
    unfolding sound_lists
    not_clear = first_fails (whole_lists sizes block && clear_lists sizes issued block) (unused_zero sizes block) clear so_far

    pub unused_decides : clear ≡ true → (zero : Bool) → zero ≡ unused_zero sizes block → zero ≡ sound_lists sizes issued block
    unfolding sound_lists
    unused_decides = second_decides (whole_lists sizes block && clear_lists sizes issued block) (unused_zero sizes block) clear so_far
