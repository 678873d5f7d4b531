-- Definitions that the contracts of inner functions alone cite.
use Rattle.std.specs.Prelude.{Bool, Option, Some, None, cond, List, ℕ}
use Rattle.answers.specs.Outcome.{Outcome}
use Rattle.answers.specs.Inner.{given}
use Rattle.words.specs.Words.{encode}
use Rattle.blocks.specs.Block.{current}
use Rattle.blocks.specs.Whole.{whole_lists}
use Rattle.blocks.specs.declared.sizes.Sizes.{Sizes}
use Rattle.block_change.specs.Change.{merge_due}

-- whether a flip merges first; none where a list is not whole
unfoldable pub flip_for : Sizes → ℕ → List ℕ → Option Bool
flip_for sizes row block = cond (whole_lists sizes block) (Some (merge_due sizes row block)) None

-- Query's part for one value: the canonical list of V xor U, or OUT_SMALL
unfoldable pub list_outcome : Sizes → List ℕ → List ℕ → Outcome
list_outcome sizes block out = given (encode (current sizes block)) out
