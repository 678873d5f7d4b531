-- What a change of one value leaves: its new block with right fences, as many words and fences, and every other value as it was. Assumes nothing.
use mathlib.Core.Path.{◌≡◌, refl, ◌∙◌, ap, sym}
use mathlib.Core.List.{List}
use Prim.Native.Nat.{ℕ, zero, suc, ◌+◌, ◌*◌, ◌<◌, ◌≤◌}
use native.Mathlib.Nat.{zero-add, add-zero, add-suc, suc-add}
use native.Mathlib.Omega.{arith}
use lib.ListN.{length, get_or}
use Rattle.blocks.specs.Sizes.{fence_count}
use Rattle.blocks.specs.Block.{value_list}
use Rattle.blocks.specs.declared.sizes.Sizes.{Sizes}
use Rattle.blocks.proofs.Parts.{get_d_part, length-write, part-write, part_apart}
use Rattle.blocks.proofs.SizeLaws.{places_apart}
use Rattle.block_read.specs.Fences.{fence_at}
use Rattle.block_read.specs.declared.fence.Fence.{Fence}
use Rattle.memory.specs.Fences.{no_fence, fences_from}
use Rattle.memory.specs.Memory.{Memory, memory_of, list_at, fences_at}
use Rattle.memory.proofs.FenceRecords.{length-fences_from}
use Rattle.change_value.specs.Change.{renewed}
use Rattle.change_value.proofs.Changing.{Puts}
use Rattle.index.specs.Soundness.{FencesRight}

-- the value has a new block, whose fences are right, there are as many words and fences, and every other value is as it was
pub record Replaced (sizes : Sizes) (value : ℕ) (before after : Memory) (new : List ℕ) : Type 0 where
  pub words : Puts sizes before.words value new after.words
  pub long_fences : length after.fences ≡ length before.fences
  pub right : FencesRight sizes after value
  pub others : (other : ℕ) → (value ≡ other → ⊥) → fences_at sizes after.fences other ≡ fences_at sizes before.fences other

-- fence j of a value is record v x F + j
pub get_or-fences_at : (sizes : Sizes) (fences : List Fence) (value j : ℕ) → j < fence_count sizes
    → get_or (fences_at sizes fences value) j no_fence ≡ get_or fences (value * fence_count sizes + j) no_fence
unfolding fences_at
get_or-fences_at sizes fences value j h = get_d_part fences (value * fence_count sizes) (fence_count sizes) j no_fence h

-- the fences of another value are right as they were
pub others_right : {sizes : Sizes} {value : ℕ} {before after : Memory} {new : List ℕ} → Replaced sizes value before after new
    → (other : ℕ) → (value ≡ other → ⊥) → FencesRight sizes before other → FencesRight sizes after other
others_right {sizes} {value} {before} {after} replaces other differ right j h =
    sym (get_or-fences_at sizes after.fences other j h)
    ∙ ap (λ (fences : List Fence). get_or fences j no_fence) (replaces.others other differ)
    ∙ get_or-fences_at sizes before.fences other j h
    ∙ right j h
    ∙ ap (λ (block : List ℕ). fence_at sizes (value_list sizes block) j) (sym (replaces.words.others other differ))

-- ---- fences made anew

get_or-fences_from : (sizes : Sizes) (list : List ℕ) (j count i : ℕ) → i < count
    → get_or (fences_from sizes list j count) i no_fence ≡ fence_at sizes list (j + i)
get_or-fences_from sizes list j zero i h = absurd (omega arith)
get_or-fences_from sizes list j (suc count) zero h = rw add-zero refl
get_or-fences_from sizes list j (suc count) (suc i) h = rw (add-suc, ← suc-add) (get_or-fences_from sizes list (suc j) count i (omega arith))

module _ (sizes : Sizes) (words : List ℕ) (fences : List Fence) (value : ℕ) (room : value * fence_count sizes + fence_count sizes ≤ length fences) where
  -- F
  abbrev many : ℕ
  many = fence_count sizes

  -- the value's fences, made from its V
  abbrev made : List Fence
  made = fences_from sizes (list_at sizes words value) 0 many

  long_made : length made ≡ many
  long_made = length-fences_from sizes (list_at sizes words value) 0 many

  fits : value * many + length made ≤ length fences
  fits = rw long_made room

  length-renewed : length (renewed sizes words fences value) ≡ length fences
  unfolding renewed
  length-renewed = length-write fences (value * many) made fits

  fences_made : fences_at sizes (renewed sizes words fences value) value ≡ made
  unfolding renewed fences_at
  fences_made = rw long_made at (part-write fences (value * many) made fits)

  renewed-right : FencesRight sizes (memory_of words (renewed sizes words fences value)) value
  renewed-right j h =
      sym (get_or-fences_at sizes (renewed sizes words fences value) value j h)
      ∙ rw fences_made (rw zero-add at (get_or-fences_from sizes (list_at sizes words value) 0 many j h))

  renewed_others : (other : ℕ) → (value ≡ other → ⊥) → fences_at sizes (renewed sizes words fences value) other ≡ fences_at sizes fences other
  unfolding renewed fences_at
  renewed_others other differ =
      part_apart fences (value * many) made fits (other * many) many (rw long_made (places_apart many value other differ))

-- THEOREM: a block that is put, and fences that are made anew
pub replaced : (sizes : Sizes) (memory : Memory) (value : ℕ) → value * fence_count sizes + fence_count sizes ≤ length memory.fences
    → {new left : List ℕ} → Puts sizes memory.words value new left
    → Replaced sizes value memory (memory_of left (renewed sizes left memory.fences value)) new
replaced sizes memory value room {new} {left} puts =
    record {
      words = puts;
      long_fences = length-renewed sizes left memory.fences value room;
      right = renewed-right sizes left memory.fences value room;
      others = renewed_others sizes left memory.fences value room;
    }
