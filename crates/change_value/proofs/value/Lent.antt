-- The block of a value as the code lends it, which multiplies by `sizes.block`, and the words when it has come back changed. Assumes nothing.
use mathlib.Core.Path.{◌≡◌, ◌∙◌, ap}
use mathlib.Core.List.{List, ◌++◌}
use Prim.Native.Nat.{ℕ, ◌+◌, ◌-◌, ◌*◌}
use native.Mathlib.Omega.{arith}
use lib.ListN.{length, take, drop}
use Rattle.blocks.specs.Sizes.{block_size}
use Rattle.blocks.specs.Inner.{Limits}
use Rattle.blocks.specs.Block.{write}
use Rattle.blocks.specs.declared.sizes.Sizes.{Sizes}
use Rattle.blocks.proofs.Parts.{part_slice, write-lent}
use Rattle.memory.specs.Memory.{block_at}
use Rattle.change_value.specs.Change.{put_block}

module _ (sizes : Sizes) (limits : Limits sizes) (words : List ℕ) (value : ℕ) where
  abbrev place : ℕ
  place = value * sizes.block

  -- how many words are lent, as the code counts them
  abbrev count : ℕ
  count = place + sizes.block - place

  all : count ≡ block_size sizes
  all = omega arith

  pub lent-block : take count (drop place words) ≡ block_at sizes words value
  unfolding block_at
  lent-block =
      part_slice words (value * block_size sizes) (block_size sizes) place (place + sizes.block) (ap (λ (size : ℕ). value * size) limits.block_is) all

  -- what a change makes of the block is put in its place
  pub put_back : (change : List ℕ → List ℕ) → length (change (block_at sizes words value)) ≡ block_size sizes
      → (new : List ℕ) → new ≡ change (take count (drop place words))
      → take place words ++ (new ++ drop count (drop place words)) ≡ put_block sizes words value (change (block_at sizes words value))
  unfolding put_block
  put_back change long new e =
      let same = e ∙ ap change lent-block in
      write-lent words place count new (ap length same ∙ long ∙ omega arith)
      ∙ ap (write words place) same
      ∙ ap (λ (size : ℕ). write words (value * size) (change (block_at sizes words value))) limits.block_is
