-- A merge: V becomes V xor U and U all zero, which keeps V xor U and leaves both lists whole. Assumes nothing.
use mathlib.Core.Path.{◌≡◌, ◌∙◌}
use mathlib.Core.Bool.{true}
use mathlib.Core.List.{List}
use Prim.Native.Nat.{ℕ, ◌≤◌}
use lib.ListN.{length}
use Rattle.words.specs.Words.{encode, canonical}
use Rattle.blocks.specs.Sizes.{value_room, block_size}
use Rattle.blocks.specs.Inner.{Limits}
use Rattle.blocks.specs.Block.{current, padded}
use Rattle.blocks.specs.Whole.{update_ones, whole_lists}
use Rattle.block_change.specs.Change.{merged}
use Rattle.blocks.specs.declared.sizes.Sizes.{Sizes}
use Rattle.blocks.proofs.Blocks.{ValueIs}
use Rattle.blocks.proofs.EmptyUpdates.{length-emptied, value-emptied, ones-emptied, current-emptied, whole-emptied}
use Rattle.blocks.proofs.WholeLists.{current-fits, decode-current, canonical-current}

module _ (sizes : Sizes) (limits : Limits sizes) (block : List ℕ) (whole : whole_lists sizes block ≡ true) where
  -- the list of V xor U
  abbrev list : List ℕ
  list = encode (current sizes block)

  fits : length list ≤ value_room sizes
  fits = current-fits sizes limits block whole

  good : canonical sizes.rows list ≡ true
  good = canonical-current sizes limits block whole

  pub length_merged : length (merged sizes block) ≡ block_size sizes
  unfolding merged
  length_merged = length-emptied sizes limits list fits

  -- V is the list of V xor U
  pub value-merged : ValueIs sizes (length list) (padded (value_room sizes) list) list (merged sizes block)
  unfolding merged
  value-merged = value-emptied sizes limits list fits

  pub update_ones-merged : update_ones sizes (merged sizes block) ≡ 0
  unfolding merged
  update_ones-merged = ones-emptied sizes limits list fits

  -- THEOREM: merging keeps V xor U
  pub current-merged : current sizes (merged sizes block) ≡ current sizes block
  unfolding merged
  current-merged = current-emptied sizes limits list fits good ∙ decode-current sizes limits block whole

  -- THEOREM: both lists are whole again
  pub whole-merged : whole_lists sizes (merged sizes block) ≡ true
  unfolding merged
  whole-merged = whole-emptied sizes limits list fits good
