-- Where a value's block and its fences lie, and how long they are. Assumes nothing.
use mathlib.Core.Path.{◌≡◌, refl, ap, ◌∙◌}
use mathlib.Core.Bool.{true}
use mathlib.Core.List.{List}
use Prim.Native.Nat.{ℕ, zero, suc, ◌+◌, ◌*◌, ◌<◌, ◌≤◌}
use native.Mathlib.Nat.{add-suc, add-zero, mul-le-mul}
use native.Mathlib.Omega.{arith}
use lib.ListN.{length}
use borrow.Author.Tests.{le-leb}
use Rattle.blocks.specs.Sizes.{block_size, fence_count}
use Rattle.blocks.specs.Inner.{Limits}
use Rattle.blocks.specs.declared.sizes.Sizes.{Sizes}
use Rattle.blocks.proofs.Parts.{length_part}
use Rattle.blocks.proofs.SizeLaws.{place-fits, few-groups, few_fences}
use Rattle.memory.specs.Memory.{sizes_of, lent, block_at}
use Rattle.memory.specs.Inner.{Planned, Fenced}
use Rattle.memory.specs.declared.header.Header.{Header}
use Rattle.memory.proofs.Headers.{Within, within, within_limits_lem}

-- a block that lies inside the words is as long as a block
pub length-block_at : (sizes : Sizes) (words : List ℕ) (value : ℕ) → value * block_size sizes + block_size sizes ≤ length words
    → length (block_at sizes words value) ≡ block_size sizes
unfolding block_at
length-block_at sizes words value inside = length_part words (value * block_size sizes) (block_size sizes) inside

-- it lies inside them at its place as the code has it, which multiplies by `sizes.block`
pub inside_words : (sizes : Sizes) → Limits sizes → (words value : ℕ) → value * block_size sizes + block_size sizes ≤ words
    → value * sizes.block + sizes.block ≤ words
inside_words sizes limits words value inside = rw limits.block_is inside

-- a round's count and the next
pub one_more : (i : ℕ) → i + 1 ≡ suc i
one_more i = add-suc i zero ∙ ap suc (add-zero i)

-- ---- a header within its limits with its sizes and its memory

module _ {header : Header} {sizes : Sizes} {words fences : ℕ} (is : Planned header sizes words fences) where
  pub numbers : Within header
  numbers = within header is.holds

  pub header-limits : Limits (sizes_of header)
  header-limits = within_limits_lem header numbers

  pub limits : Limits sizes
  limits = rw is.planned header-limits

  pub fences_few : sizes.fences ≤ 4096
  fences_few = rw limits.fences_are (omega (arith, few_fences sizes limits, few-groups sizes limits))

  module _ (value : ℕ) (below : value < header.values) where
    -- the block of a value lies inside the words lent, and its fences inside the records
    pub fenced : Fenced sizes words fences value
    fenced =
        rw is.planned
        (record {
          limits = header-limits;
          inside = omega (arith, place-fits (block_size (sizes_of header)) value header.values below, is.words_lent);
          room = omega (arith, place-fits (fence_count (sizes_of header)) value header.values below, is.fences_lent);
        })

    -- and their places are numbers that the code can have
    pub fences_bound : value * sizes.fences ≤ 262144
    fences_bound = mul-le-mul {n₂ = 64} {m₂ = 4096} (omega (arith, numbers.few_values, below)) fences_few

-- what is planned is lent
pub planned_lent : {header : Header} {sizes : Sizes} {words fences : ℕ} → Planned header sizes words fences → lent header words fences ≡ true
unfolding lent
planned_lent {header} {sizes} {words} {fences} is =
    rw (
      le-leb (header.values * block_size (sizes_of header)) words is.words_lent,
      le-leb (header.values * fence_count (sizes_of header)) fences is.fences_lent,
    )
    refl
