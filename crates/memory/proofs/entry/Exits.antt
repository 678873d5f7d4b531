-- The exits of the checks that calls begin with: a test that was answered, and each answer of the entry into an index. Assumes nothing.
use Rattle.std.specs.Prelude.{Ok, Err}
use mathlib.Core.Path.{◌≡◌, refl, sym, ◌∙◌}
use mathlib.Core.Bool.{Bool, true, false}
use Prim.Native.Nat.{ℕ, ◌*◌, ◌<◌, ◌≤◌}
use lib.Dec.{leb}
use borrow.Author.Tests.{le-leb, lt-leb}
use Rattle.answers.specs.declared.Refusal.TheVariants.{BadHeader, Small}
use Rattle.blocks.specs.Sizes.{block_size, fence_count}
use Rattle.blocks.specs.declared.sizes.Sizes.{Sizes}
use Rattle.memory.specs.Memory.{within_limits, sizes_of, lent}
use Rattle.memory.specs.Inner.{entered_index}
use Rattle.memory.specs.declared.header.Header.{Header}

-- ---- a test that a function answered

module _ {answer test : Bool} (told : answer ≡ test) where
  pub failed : answer ≡ false → test ≡ false
  failed e = sym told ∙ e

  pub held : answer ≡ true → test ≡ true
  held e = sym told ∙ e

-- ---- the entry into an index

module _ (words fences : ℕ) (header : Header) where
  pub outside : within_limits header ≡ false → Err BadHeader ≡ entered_index words fences header
  unfolding entered_index
  outside e = rw e refl

  -- for the sizes as they are worked out
  module _ (holds : within_limits header ≡ true) (sizes : Sizes) (p : sizes ≡ sizes_of header) where
    pub few_words : words < header.values * sizes.block → Err Small ≡ entered_index words fences header
    unfolding entered_index lent
    few_words h = rw (holds, lt-leb (header.values * block_size (sizes_of header)) words (rw p at h)) refl

    module _ (h : header.values * sizes.block ≤ words) where
      words_lent : leb (header.values * block_size (sizes_of header)) words ≡ true
      words_lent = le-leb (header.values * block_size (sizes_of header)) words (rw p at h)

      pub few_fences : fences < header.values * sizes.fences → Err Small ≡ entered_index words fences header
      unfolding entered_index lent
      few_fences k = rw (holds, words_lent, lt-leb (header.values * fence_count (sizes_of header)) fences (rw p at k)) refl

      pub enters : header.values * sizes.fences ≤ fences → Ok sizes ≡ entered_index words fences header
      unfolding entered_index lent
      enters k = rw (holds, words_lent, le-leb (header.values * fence_count (sizes_of header)) fences (rw p at k), p) refl
