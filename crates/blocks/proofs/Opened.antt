-- The fields that the code reads of sizes are those of its numbers, and its numbers are within their limits. Assumes nothing.
use mathlib.Core.Path.{◌≡◌, ◌∙◌, ap}
use Rattle.blocks.specs.Sizes.{Sizes, update_room, fence_count}
use Rattle.blocks.specs.Inner.{Limits, numbers_of}
use Rattle.blocks.specs.declared.sizes.Sizes.TheInside.{Inside}

module _ {inside : Inside} {sizes : Sizes} (view_is : numbers_of inside ≡ sizes) where
  pub limits_of : Limits (numbers_of inside) → Limits sizes
  limits_of limits = rw view_is at limits

  pub rows_read : inside.rows ≡ sizes.rows
  rows_read = ap (λ n. n.rows) view_is

  pub groups_read : inside.groups ≡ sizes.groups
  groups_read = ap (λ n. n.groups) view_is

  pub room_read : inside.value_room ≡ sizes.value_room
  room_read = ap (λ n. n.value_room) view_is

  pub update_read : inside.update_room ≡ sizes.update_room
  update_read = ap (λ n. n.update_room) view_is

  pub threshold_read : inside.threshold ≡ sizes.threshold
  threshold_read = ap (λ n. n.threshold) view_is

  pub spacing_read : inside.spacing ≡ sizes.spacing
  spacing_read = ap (λ n. n.spacing) view_is

  pub block_read : inside.block ≡ sizes.block
  block_read = ap (λ n. n.block) view_is

  pub fences_read : inside.fences ≡ sizes.fences
  fences_read = ap (λ n. n.fences) view_is

  -- the room of U that the code reads is what its threshold gives
  pub update_room_read : Limits (numbers_of inside) → inside.update_room ≡ update_room sizes
  update_room_read limits = limits.update_room_is ∙ ap update_room view_is

  -- and so many fences a value
  pub fences_counted : Limits (numbers_of inside) → inside.fences ≡ fence_count sizes
  fences_counted limits = limits.fences_are ∙ ap fence_count view_is
