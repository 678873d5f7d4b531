-- Document 01, "Memory of an index": the fence records of a value list.
use Rattle.std.specs.Prelude.{Bool, true, ◌&&◌, List, [], ◌∷◌, ℕ, zero, suc, eqb}
use Rattle.blocks.specs.declared.sizes.Sizes.{Sizes}
use Rattle.block_read.specs.Fences.{fence_of, fence_at}
use Rattle.block_read.specs.declared.fence.Fence.{Fence}

-- what stands for a record that is not lent
abbrev pub no_fence : Fence
no_fence = fence_of 0 0

-- so many fences of a list from fence j on
abbrev pub fences_from : Sizes → List ℕ → ℕ → ℕ → List Fence
fences_from sizes list j zero = []
fences_from sizes list j (suc count) = fence_at sizes list j ∷ fences_from sizes list (suc j) count

-- whether a record is the fence that it should be
abbrev pub is_fence : Fence → Fence → Bool
is_fence right lent = eqb right.place lent.place && eqb right.first lent.first

-- whether each of some records, from fence j on, is that of the list
abbrev pub right_fences : Sizes → List ℕ → ℕ → List Fence → Bool
right_fences sizes list j [] = true
right_fences sizes list j (fence ∷ fences) = is_fence (fence_at sizes list j) fence && right_fences sizes list (suc j) fences
