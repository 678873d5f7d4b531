-- Laws of the fences of a list as records: one more of them, all right, one wrong, and the search for the next. Assumes nothing.
use mathlib.Core.Path.{◌≡◌, refl, sym, ap, ◌∙◌}
use mathlib.Core.Bool.{Bool, true, false, and-eq-true_iff}
use mathlib.Core.List.{List, [], ◌∷◌, ◌++◌}
use Prim.Native.Nat.{ℕ, zero, suc, ◌+◌, ◌*◌, ◌<◌}
use native.Mathlib.Nat.{add-zero, zero-add, add-suc, suc-add, not-suc-le-zero, mul-le-mul_right}
use native.Mathlib.Omega.{arith}
use lib.ListN.{length, get_or}
use Rattle.block_read.specs.Fences.{locate_from, fence_at}
use Rattle.blocks.specs.declared.sizes.Sizes.{Sizes}
use Rattle.block_read.proofs.FenceLaws.{Stands, stands_first, stands_later, fence_stands, fence_later}
use Rattle.memory.specs.Fences.{fences_from, is_fence, right_fences, no_fence}
use Rattle.memory.specs.Inner.{fence_before}
use Rattle.block_read.specs.declared.fence.Fence.{Fence}

module _ (sizes : Sizes) (list : List ℕ) where
  -- ---- records made

  pub length-fences_from : (j count : ℕ) → length (fences_from sizes list j count) ≡ count
  length-fences_from j zero = refl
  length-fences_from j (suc count) = ap suc (length-fences_from (suc j) count)

  pub one_fence_more : (j count : ℕ) → fences_from sizes list j (suc count) ≡ fences_from sizes list j count ++ fence_at sizes list (j + count) ∷ []
  one_fence_more j zero = rw (add-zero j) refl
  one_fence_more j (suc count) = rw (add-suc j count, ← suc-add j count) (ap (◌∷◌ (fence_at sizes list j)) (one_fence_more (suc j) count))

  -- ---- records compared

  -- each record is right, so all are
  pub all_right : (j : ℕ) (fences : List Fence)
      → ((k : ℕ) → k < length fences → is_fence (fence_at sizes list (j + k)) (get_or fences k no_fence) ≡ true)
      → right_fences sizes list j fences ≡ true
  all_right j [] each = refl
  all_right j (fence ∷ fences) each =
      let first = rw (add-zero j) at (each 0 (omega arith)) in
      rw first
      (all_right (suc j) fences (λ k h. rw (suc-add j k, ← add-suc j k) (each (suc k) (omega (arith, h)))))

  -- all are right, so each is
  pub each_right : (j : ℕ) (fences : List Fence) → right_fences sizes list j fences ≡ true → (k : ℕ) → k < length fences
      → is_fence (fence_at sizes list (j + k)) (get_or fences k no_fence) ≡ true
  each_right j [] right k h = absurd (not-suc-le-zero h)
  each_right j (fence ∷ fences) right zero h = rw (add-zero j) ((and-eq-true_iff _ (right_fences sizes list (suc j) fences)).0 right).0
  each_right j (fence ∷ fences) right (suc k) h =
      let rest = ((and-eq-true_iff (is_fence (fence_at sizes list j) fence) (right_fences sizes list (suc j) fences)).0 right).1 in
      rw (add-suc j k, ← suc-add j k) (each_right (suc j) fences rest k (omega (arith, h)))

  -- one is wrong, so not all are right
  pub one_wrong : (fences : List Fence) (k : ℕ) → k < length fences → is_fence (fence_at sizes list k) (get_or fences k no_fence) ≡ false
      → right_fences sizes list 0 fences ≡ false
  one_wrong fences k h wrong = go (right_fences sizes list 0 fences) refl
    where
      go : (right : Bool) → right_fences sizes list 0 fences ≡ right → right ≡ false
      go true e = sym (rw (zero-add k) at (each_right 0 fences e k h)) ∙ wrong
      go false e = refl

  -- ---- the search for a fence from the one before it

  pub before_stands : (j : ℕ) → Stands list (j * sizes.spacing) (fence_before sizes list j)
  before_stands zero = stands_first list (zero * sizes.spacing)
  before_stands (suc j) = stands_later (suc j * sizes.spacing) (mul-le-mul_right sizes.spacing (omega arith)) (fence_stands sizes list j)

  pub before_finds : (j : ℕ) → locate_from list (fence_before sizes list j) (j * sizes.spacing) ≡ fence_at sizes list j
  unfolding fence_at
  before_finds zero = refl
  before_finds (suc j) = fence_later sizes list j (suc j) (omega arith)
