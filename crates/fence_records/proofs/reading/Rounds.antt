-- One round of reading a row: the fence that is asked, and what the value's read adds. Assumes nothing.
use mathlib.Core.Path.{◌≡◌, refl, ◌∙◌}
use mathlib.Core.List.{List}
use Prim.Native.Nat.{ℕ, ◌+◌, ◌*◌, ◌-◌, ◌/◌, ◌%◌, ◌<◌, ◌≤◌, ◌^◌}
use native.Mathlib.Nat.{div-le_self}
use native.Mathlib.Omega.{arith}
use lib.ListN.{length, get_or}
use Rattle.blocks.specs.Sizes.{block_size, fence_count}
use Rattle.blocks.specs.Inner.{Limits}
use Rattle.block_read.specs.Read.{read_group}
use Rattle.memory.specs.Inner.{Planned}
use Rattle.memory.specs.Fences.{no_fence}
use Rattle.memory.specs.Memory.{Memory, memory_of, block_at}
use Rattle.memory.specs.Reading.{fence_for, read_in, row_step, read_row, row_of}
use Rattle.memory.specs.declared.header.Header.{Header}
use Rattle.block_read.specs.declared.fence.Fence.{Fence}
use Rattle.blocks.specs.declared.sizes.Sizes.{Sizes}
use Rattle.memory.specs.declared.row.Row.{Row}
use Rattle.memory.proofs.Places.{one_more, numbers, limits, fenced, fences_bound}
use Rattle.memory.proofs.RowLaws.{row_fits}

module _ {header : Header} {sizes : Sizes} (words : List ℕ) (fences : List Fence) (is : Planned header sizes (length words) (length fences)) where
  abbrev memory : Memory
  memory = memory_of words fences

  pub some_spacing : 0 < sizes.spacing
  some_spacing = (limits is).some_spacing

  module _ (row value : ℕ) (below : value < header.values) where
    -- the place of the value's first fence is a number, and so is that of the row's fence
    pub place-fits : value * sizes.fences < 2 ^ 64
    place-fits = omega (arith, fences_bound is value below)

    module _ (nearest : ℕ) (near : nearest ≡ row / 31 / sizes.spacing) (row_fits : row < 2 ^ 32) where
      pub nearest_fits : value * sizes.fences + nearest < 2 ^ 64
      nearest_fits = omega (arith, fences_bound is value below, div-le_self (row / 31) sizes.spacing)

    module _ (found : Row) (before : found ≡ read_row sizes memory row value) where
      -- what the next read asks
      pub may_read : (mask : ℕ) → mask ≡ 2 ^ (30 - row % 31)
          → Limits sizes × (value * block_size sizes + block_size sizes ≤ length words) × (mask ≡ 2 ^ (30 - row % 31)) × (found.holders < 64)
          × (found.opened ≤ 48321)
      may_read mask is-mask =
          let fits = row_fits sizes memory row (limits is) value (omega (arith, below, (numbers is).few_values)) in
          let inside = fenced is value below in
          rw before (inside.limits, inside.inside, is-mask, fits.0, fits.1)

      -- the round
      pub reads : (nearest : ℕ) → nearest ≡ row / 31 / sizes.spacing
          → {each : ℕ} → each ≡ fence_count sizes → (fence : Fence) → fence ≡ get_or fences (value * each + nearest) no_fence
          → (after : Row)
          → after ≡ row_step row value found (read_group sizes fence (row / 31) (block_at sizes words value))
          → after ≡ read_row sizes memory row (value + 1)
      unfolding read_in fence_for
      reads nearest near counted fence asked after read = rw (one_more value, ← before, read, asked, near, counted) refl

  -- the row is read in all values
  pub all_read : (row value : ℕ) (found : Row) → found ≡ read_row sizes memory row value → value ≡ header.values → found ≡ row_of header memory row
  unfolding row_of
  all_read row value found before all = before ∙ rw (is.planned, all) refl
