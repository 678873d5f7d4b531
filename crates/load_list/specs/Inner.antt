-- Definitions that the contracts of inner functions alone cite: a list that is written group by group, and the block that is packed from its groups.
use Rattle.std.specs.Prelude.{◌≡◌, Bool, true, not, cond, ◌&&◌, List, [], ◌∷◌, ℕ, ◌+◌, ◌≤◌, eqb, get_or, take}
use Rattle.words.specs.Words.{fill, word_of, all_ones, encode}
use Rattle.words.specs.declared.writer.Pending.{Pending}
use Rattle.words.specs.declared.writer.Step.{Step}
use Rattle.words.specs.declared.writer.ListWriter.{ListWriter}
use Rattle.blocks.specs.Block.{value_words, padded, block_of, zero_list}
use Rattle.blocks.specs.declared.sizes.Sizes.{Sizes}

-- ---- a list that is written group by group

-- so many groups without a 1 are pending
abbrev pub zeros_pending : ℕ → Pending
zeros_pending zeros = record { bit = 0; count = zeros }

-- some words, and the groups without a 1 that are pending after them
abbrev pub step_of : ℕ → ℕ → ℕ → ℕ → Step
step_of words first second zeros = record { words = words; first = first; second = second; pending = zeros_pending zeros }

-- a group that is not all ones, after so many groups without a 1
abbrev pub sparse_step : ℕ → ℕ → Step
sparse_step zeros group =
    cond (eqb group 0) (step_of 0 0 0 (zeros + 1)) (cond (eqb zeros 0) (step_of 1 group 0 0) (step_of 2 (word_of (fill 0 zeros)) group 0))

-- whether each of some numbers is the one given
abbrev pub all_alike : ℕ → List ℕ → Bool
all_alike number [] = true
all_alike number (next ∷ numbers) = eqb next number && all_alike number numbers

-- whether none of some groups is all ones
abbrev pub none_full : List ℕ → Bool
none_full [] = true
none_full (group ∷ groups) = not (eqb group all_ones) && none_full groups

-- 0 stands behind the words of a list
pub record Clear (list : ListWriter) : Type 0 where
  pub behind : (place : ℕ) → list.written ≤ place → get_or list.out.now place 0 ≡ 0

-- ---- the block that is packed from its groups

-- the list of the groups that stand first in V's room, all zero behind them up to M
unfoldable pub packed_list : Sizes → ℕ → List ℕ → List ℕ
packed_list sizes filled block = encode (padded sizes.groups (take filled (value_words sizes block)))

-- the block with that list, and empty updates
unfoldable pub packed_block : Sizes → ℕ → List ℕ → List ℕ
packed_block sizes filled block = block_of sizes (packed_list sizes filled block) (zero_list sizes)
