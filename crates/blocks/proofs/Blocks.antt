-- What a block reads as: its four parts, and what stands in it after one of its lists is written. Assumes nothing.
use mathlib.Core.Path.{◌≡◌, refl, ap}
use mathlib.Core.List.{List, ◌∷◌, ◌++◌}
use Prim.Native.Nat.{ℕ, suc, ◌+◌, ◌≤◌}
use native.Mathlib.Omega.{arith}
use lib.ListN.{length, take, drop, length-append}
use lib.Seq.{length-take-le, take_at, drop_at, take_all}
use Rattle.blocks.specs.Sizes.{value_room, update_room, block_size}
use Rattle.blocks.specs.Block.{part, value_length, update_length, value_words, update_words, value_list, update_list}
use Rattle.blocks.specs.Block.{padded, with_update, block_of}
use Rattle.blocks.specs.Inner.{with_value}
use Rattle.blocks.specs.declared.sizes.Sizes.{Sizes}
use Rattle.blocks.proofs.Parts.{length_part}
use Rattle.blocks.proofs.Rooms.{length-padded, take-padded}

-- ---- what is read of a block

-- V: its length, the words of its room, and the list
pub record ValueIs (sizes : Sizes) (count : ℕ) (words list block : List ℕ) : Type 0 where
  pub counts : value_length block ≡ count
  pub fills : value_words sizes block ≡ words
  pub lists : value_list sizes block ≡ list

-- U: the same
pub record UpdateIs (sizes : Sizes) (count : ℕ) (words list block : List ℕ) : Type 0 where
  pub counts : update_length block ≡ count
  pub fills : update_words sizes block ≡ words
  pub lists : update_list sizes block ≡ list

-- a block is two lengths, the words of V's room and those of U's
record Laid (sizes : Sizes) (valueCount updateCount : ℕ) (value update block : List ℕ) : Type 0 where
  same : block ≡ valueCount ∷ updateCount ∷ (value ++ update)
  value_fits : length value ≡ value_room sizes
  update_fits : length update ≡ update_room sizes

module _ {sizes : Sizes} {valueCount updateCount : ℕ} {value update block : List ℕ} (is : Laid sizes valueCount updateCount value update block) where
  length_laid : length block ≡ block_size sizes
  length_laid = rw is.same (omega (arith, length-append value update, is.value_fits, is.update_fits))

  value_laid : ValueIs sizes valueCount value (take valueCount value) block
  unfolding value_list value_words part
  value_laid =
      let room : take (value_room sizes) (value ++ update) ≡ value = take_at value update (value_room sizes) is.value_fits in
      rw is.same (record { counts = refl; fills = room; lists = ap (take valueCount) room })

  update_laid : UpdateIs sizes updateCount update (take updateCount update) block
  unfolding update_list update_words part
  update_laid =
      let behind : 2 + value_room sizes ≡ suc (suc (value_room sizes)) = omega arith in
      let past = drop_at value update (value_room sizes) is.value_fits in
      let all = take_all (update_room sizes) update (omega (arith, is.update_fits)) in
      let room : take (update_room sizes) (drop (2 + value_room sizes) (valueCount ∷ updateCount ∷ (value ++ update))) ≡ update = rw (behind, past) all in
      rw is.same (record { counts = refl; fills = room; lists = ap (take updateCount) room })

module _ (sizes : Sizes) (block : List ℕ) (b : length block ≡ block_size sizes) where
  pub length-value_words : length (value_words sizes block) ≡ value_room sizes
  unfolding value_words
  length-value_words = length_part block 2 (value_room sizes) (omega arith)

  pub length-update_words : length (update_words sizes block) ≡ update_room sizes
  unfolding update_words
  length-update_words = length_part block (2 + value_room sizes) (update_room sizes) (omega arith)

  -- the lists are as long as their lengths say, where these fit the rooms
  pub length-value_list : value_length block ≤ value_room sizes → length (value_list sizes block) ≡ value_length block
  unfolding value_list
  length-value_list few = length-take-le (value_length block) (value_words sizes block) (omega (arith, length-value_words))

  -- ---- V is written

  module _ (count : ℕ) (words : List ℕ) (w : length words ≡ value_room sizes) where
    laid_with_value : Laid sizes count (update_length block) words (update_words sizes block) (with_value sizes count words block)
    unfolding with_value
    laid_with_value = record { same = refl; value_fits = w; update_fits = length-update_words }

    pub value-with_value : ValueIs sizes count words (take count words) (with_value sizes count words block)
    value-with_value = value_laid laid_with_value

    -- THEOREM: U is as it was
    pub update-with_value : UpdateIs sizes (update_length block) (update_words sizes block) (update_list sizes block) (with_value sizes count words block)
    unfolding update_list
    update-with_value = update_laid laid_with_value

  -- THEOREM: V is the list that was written with its room
  pub value_put : (list : List ℕ) → length list ≤ value_room sizes
      → ValueIs sizes (length list) (padded (value_room sizes) list) list (with_value sizes (length list) (padded (value_room sizes) list) block)
  value_put list few =
      rw (take-padded (value_room sizes) list) at (value-with_value (length list) (padded (value_room sizes) list) (length-padded (value_room sizes) list few))

  -- ---- U is written

  module _ (count : ℕ) (words : List ℕ) (w : length words ≡ update_room sizes) where
    laid_with_update : Laid sizes (value_length block) count (value_words sizes block) words (with_update sizes count words block)
    unfolding with_update
    laid_with_update = record { same = refl; value_fits = length-value_words; update_fits = w }

    pub length-with_update : length (with_update sizes count words block) ≡ block_size sizes
    length-with_update = length_laid laid_with_update

    -- THEOREM: V is as it was
    pub value-with_update : ValueIs sizes (value_length block) (value_words sizes block) (value_list sizes block) (with_update sizes count words block)
    unfolding value_list
    value-with_update = value_laid laid_with_update

    pub update-with_update : UpdateIs sizes count words (take count words) (with_update sizes count words block)
    update-with_update = update_laid laid_with_update

  -- THEOREM: U is the list that was written with its room
  pub update_put : (list : List ℕ) → length list ≤ update_room sizes
      → UpdateIs sizes (length list) (padded (update_room sizes) list) list (with_update sizes (length list) (padded (update_room sizes) list) block)
  update_put list few =
      rw (take-padded (update_room sizes) list) at (update-with_update (length list) (padded (update_room sizes) list) (length-padded (update_room sizes) list few))

-- ---- the block of two lists

module _ (sizes : Sizes) (value update : List ℕ) (v : length value ≤ value_room sizes) (u : length update ≤ update_room sizes) where
  laid_block_of : Laid sizes (length value) (length update) (padded (value_room sizes) value) (padded (update_room sizes) update) (block_of sizes value update)
  unfolding block_of
  laid_block_of = record { same = refl; value_fits = length-padded (value_room sizes) value v; update_fits = length-padded (update_room sizes) update u }

  pub length-block_of : length (block_of sizes value update) ≡ block_size sizes
  length-block_of = length_laid laid_block_of

  -- THEOREM: V is the first list, and U is the second
  pub value-block_of : ValueIs sizes (length value) (padded (value_room sizes) value) value (block_of sizes value update)
  value-block_of = rw (take-padded (value_room sizes) value) at (value_laid laid_block_of)

  pub update-block_of : UpdateIs sizes (length update) (padded (update_room sizes) update) update (block_of sizes value update)
  update-block_of = rw (take-padded (update_room sizes) update) at (update_laid laid_block_of)

  -- V is written, and then U
  pub both_put : (block : List ℕ) → length block ≡ block_size sizes
      → with_update sizes (length update) (padded (update_room sizes) update) (with_value sizes (length value) (padded (value_room sizes) value) block)
      ≡ block_of sizes value update
  unfolding with_update block_of
  both_put block b = let put = value_put sizes block b value v in rw (put.counts, put.fills) refl
