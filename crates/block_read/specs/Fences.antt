-- Document 01, "Memory of an index": a fence holds the place within V of the word that covers its group, and the first group which that word covers.
use Rattle.std.specs.Prelude.{cond, List, [], ◌∷◌, ℕ, suc, ◌+◌, ◌*◌, ltb, drop}
use Rattle.words.specs.Words.{run_of, span}
use Rattle.block_read.specs.declared.fence.Fence.{Fence}
use Rattle.blocks.specs.declared.sizes.Sizes.{Sizes}

-- a fence to the word at a place, with the first group that it covers
abbrev pub fence_of : ℕ → ℕ → Fence
fence_of place first = record { place = place; first = first }

-- the word that covers the group, among words whose first stands at `place` and covers groups from `first` on
abbrev pub locate : List ℕ → ℕ → ℕ → ℕ → Fence
locate [] place first group = fence_of place first
locate (word ∷ list) place first group =
    cond (ltb group (first + span (run_of word))) (fence_of place first) (locate list (suc place) (first + span (run_of word)) group)

-- the same from a fence's word on
abbrev pub locate_from : List ℕ → Fence → ℕ → Fence
locate_from list fence group = locate (drop fence.place list) fence.place fence.first group

-- fence j of a list: the word that covers group j x G
unfoldable pub fence_at : Sizes → List ℕ → ℕ → Fence
fence_at sizes list j = locate_from list (fence_of 0 0) (j * sizes.spacing)
