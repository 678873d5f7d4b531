-- One round of going through the fences of a value: the places of the records, and what is made or compared so far. Assumes nothing.
use mathlib.Core.Path.{◌≡◌, refl, sym, ap, ap₂, ◌∙◌}
use mathlib.Core.Bool.{Bool, true, false, not}
use mathlib.Core.Logic.{by_cases}
use mathlib.Core.List.{List}
use Prim.Native.Nat.{ℕ, ◌+◌, ◌-◌, ◌*◌, ◌<◌, ◌≤◌}
use native.Mathlib.Decide.{dec_lt}
use native.Mathlib.Nat.{zero-add}
use native.Mathlib.Omega.{arith}
use lib.ListN.{length, get_or, set, take, drop}
use lib.Seq.{take_all}
use borrow.Author.Tests.{not-true, not-false}
use borrow.Rule.Slice.PartMut.{put_mid}
use Rattle.std.proofs.lemmas.Grind.{take-set_at}
use Rattle.blocks.specs.Sizes.{fence_count}
use Rattle.blocks.specs.Block.{write}
use Rattle.block_read.specs.Fences.{fence_at}
use Rattle.block_read.specs.declared.fence.Fence.{Fence}
use Rattle.blocks.proofs.Parts.{part_slice, length_part, write-lent}
use Rattle.memory.specs.Fences.{no_fence, fences_from, is_fence, right_fences}
use Rattle.memory.specs.Inner.{Fenced, fence_before}
use Rattle.memory.specs.Memory.{list_at, fences_at}
use Rattle.change_value.specs.Change.{renewed}
use Rattle.blocks.specs.declared.sizes.Sizes.{Sizes}
use Rattle.memory.proofs.FenceRecords.{one_fence_more, all_right, one_wrong}
use Rattle.memory.proofs.Places.{one_more}

module _ {sizes : Sizes} (words : List ℕ) (fences : List Fence) (value : ℕ) (inside : Fenced sizes (length words) (length fences) value)
    {each : ℕ} (counted : each ≡ fence_count sizes) where
  -- the number of a value's fences, and the place of the first
  abbrev count : ℕ
  count = fence_count sizes

  abbrev from : ℕ
  from = value * count

  abbrev list : List ℕ
  list = list_at sizes words value

  same_place : value * each ≡ from
  same_place = ap (◌*◌ value) counted

  -- the records of the value, a part of those lent
  abbrev at : ℕ
  at = value * each

  abbrev own : List Fence
  own = take (at + each - at) (drop at fences)

  abbrev records : List Fence
  records = fences_at sizes fences value

  own_records : own ≡ records
  unfolding fences_at
  own_records = part_slice fences from count at (at + each) same_place (omega (arith, counted))

  own_long : length own ≡ count
  unfolding fences_at
  own_long = rw own_records (length_part fences from count inside.room)

  -- ---- the search

  pub below : (j : ℕ) → j < length own → j < count
  below j less = omega (arith, own_long)

  pub goes_on : (j : ℕ) (fence : Fence) → fence ≡ fence_at sizes list j → fence ≡ fence_before sizes list (j + 1)
  goes_on j fence e = rw (one_more j) e

  -- ---- records made anew

  -- the first j are made
  abbrev pub MadeTo : ℕ → List Fence → Type 0
  MadeTo j made = take j made ≡ fences_from sizes list 0 j

  module _ (j : ℕ) (made : List Fence) (long : length made ≡ length own) (before : MadeTo j made) where
    pub makes : j < length own → (fence : Fence) → fence ≡ fence_at sizes list j → MadeTo (j + 1) (set made j fence)
    makes less fence found =
        take-set_at made j (j + 1) fence refl (omega arith)
        ∙ rw (before, found, one_more j, one_fence_more sizes list 0 j, zero-add j) refl

    pub all_made : j ≤ length own → length own ≤ j → put_mid at (at + each - at) fences made ≡ renewed sizes words fences value
    unfolding renewed
    all_made up all =
        let last : j ≡ count = omega (arith, own_long) in
        let as_many : length made ≡ at + each - at = omega (arith, own_long, counted) in
        let anew : made ≡ fences_from sizes list 0 count = sym (take_all j made (omega arith)) ∙ before ∙ ap (fences_from sizes list 0) last in
        write-lent fences at (at + each - at) made as_many ∙ ap₂ (write fences) same_place anew

  -- ---- records compared

  -- the first j are right
  abbrev pub RightTo : ℕ → Type 0
  RightTo j = (k : ℕ) → k < j → is_fence (fence_at sizes list k) (get_or records k no_fence) ≡ true

  pub none_wrong : RightTo 0
  none_wrong k h = absurd (omega arith)

  module _ (j : ℕ) (less : j < length own) (fence : Fence) (found : fence ≡ fence_at sizes list j)
      (differs : Bool) (compared : differs ≡ not (is_fence fence (get_or own j no_fence))) where
    here : differs ≡ not (is_fence (fence_at sizes list j) (get_or records j no_fence))
    here = compared ∙ rw (found, own_records) refl

    pub right_so_far : differs ≡ false → RightTo j → RightTo (j + 1)
    right_so_far same before k h =
        by_cases (dec_lt k j) (before k)
        (λ last. let this : k ≡ j = omega (arith, h, last) in rw this (not-false _ (sym here ∙ same)))

    pub wrong_here : differs ≡ true → false ≡ right_fences sizes list 0 records
    wrong_here wrong =
        sym (one_wrong sizes list records j (rw (← own_records) less) (not-true _ (sym here ∙ wrong)))

  pub all_compared : (j : ℕ) → RightTo j → length own ≤ j → true ≡ right_fences sizes list 0 records
  all_compared j right all =
      sym (all_right sizes list 0 records (λ k h. rw (zero-add k) (right k (omega (arith, h, ap length own_records, all)))))
