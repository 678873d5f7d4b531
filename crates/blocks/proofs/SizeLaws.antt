-- The sizes of a value's block and of its fences, their bounds, and the places of several values one after the other. Assumes nothing.
use mathlib.Core.Path.{◌≡◌}
use mathlib.Core.Logic.{inl, inr, by_cases}
use Prim.Native.Nat.{ℕ, zero, suc, ◌+◌, ◌-◌, ◌*◌, ◌/◌, ◌<◌, ◌≤◌}
use native.Mathlib.Decide.{dec_lt}
use native.Mathlib.Nat.{mul-le-mul, mul-le-mul_right, mul-suc, suc-mul, div-le_of_le-mul, le-div_iff_mul-le, div-add-mod', mod-lt}
use native.Mathlib.Omega.{arith}
use Rattle.blocks.specs.Sizes.{value_room, block_size, fences_for, fence_count}
use Rattle.blocks.specs.Inner.{Limits}
use Rattle.blocks.specs.declared.sizes.Sizes.{Sizes}
use Rattle.blocks.proofs.Parts.{Apart}

-- ---- places of one size, one after the other

-- the place of a value ends before that of the last does
pub place-fits : (size value values : ℕ) → value < values → value * size + size ≤ values * size
place-fits size value values h = rw (← suc-mul value size) (mul-le-mul_right size h)

-- the places of two values have nothing in common
pub places_apart : (size value other : ℕ) → (value ≡ other → ⊥) → Apart (value * size) size (other * size) size
places_apart size value other differ =
    by_cases (dec_lt value other) (λ less. inl (place-fits size value other less)) (λ more. inr (place-fits size other value (omega (arith, more, differ))))

-- ---- the fences of a value

-- a quotient rounded up is not more than what is divided
pub rounded_few : (groups spacing : ℕ) → 1 ≤ groups → 1 ≤ spacing → (groups + (spacing - 1)) / spacing ≤ groups
rounded_few zero spacing h some = absurd (omega arith)
rounded_few (suc groups) spacing h some = div-le_of_le-mul spacing (omega (arith, mul-suc spacing groups, mul-le-mul_right groups some))

-- each of so many fences stands for a group that there is, and the fence of a group is one of them
module _ (groups spacing : ℕ) (some : 1 ≤ spacing) where
  pub rounded_group : (j : ℕ) → j < (groups + (spacing - 1)) / spacing → j * spacing < groups
  rounded_group j h = omega (arith, suc-mul j spacing, (le-div_iff_mul-le some).0 h)

  pub rounded_of : (group : ℕ) → group < groups → group / spacing < (groups + (spacing - 1)) / spacing
  rounded_of group h = (le-div_iff_mul-le some).1 (omega (arith, suc-mul (group / spacing) spacing, div-add-mod' group spacing))

module _ (sizes : Sizes) (limits : Limits sizes) where
  pub some_groups : 1 ≤ sizes.groups
  some_groups = omega (arith, limits.groups_are, limits.some_rows)

  pub few-groups : sizes.groups ≤ 4096
  few-groups = omega (arith, limits.groups_are, limits.few_rows)

  -- V's room is that of a list for all groups
  pub few_words : value_room sizes ≤ 4096
  few_words = omega (arith, few-groups, limits.value_room_is)

  pub few_fences : fence_count sizes ≤ sizes.groups
  unfolding fences_for
  few_fences = rounded_few sizes.groups sizes.spacing some_groups limits.some_spacing

  -- each fence stands for a group that there is
  pub fence_group : (j : ℕ) → j < fence_count sizes → j * sizes.spacing < sizes.groups
  unfolding fences_for
  fence_group j h = rounded_group sizes.groups sizes.spacing limits.some_spacing j h

  -- the fence of a group: it is there, and its own group is less than G before
  pub fence_of_lem : (group : ℕ) → group < sizes.groups → group / sizes.spacing < fence_count sizes
  unfolding fences_for
  fence_of_lem group h = rounded_of sizes.groups sizes.spacing limits.some_spacing group h

  pub fence_before_lem : (group : ℕ) → group / sizes.spacing * sizes.spacing ≤ group
  fence_before_lem group = omega (arith, div-add-mod' group sizes.spacing)

  pub fence_near : (group : ℕ) → group < group / sizes.spacing * sizes.spacing + sizes.spacing
  fence_near group = omega (arith, div-add-mod' group sizes.spacing, mod-lt group limits.some_spacing)

  -- ---- at most 64 values

  module _ (values : ℕ) (few : values ≤ 64) where
    pub blocks_bound : values * block_size sizes ≤ 294976
    blocks_bound = mul-le-mul {m₂ = 4609} few (omega (arith, few-groups, limits.value_room_is, limits.few_threshold))

    pub fences_bound : values * fence_count sizes ≤ 262144
    fences_bound = mul-le-mul {m₂ = 4096} few (omega (arith, few-groups, few_fences))
