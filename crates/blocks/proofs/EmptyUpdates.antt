-- A block with empty updates, which a merge and a load leave: how it is written, and what it reads as. Assumes nothing.
use mathlib.Core.Path.{◌≡◌, refl, ◌∙◌, ap}
use mathlib.Core.Bool.{true}
use mathlib.Core.List.{List, ◌++◌}
use Prim.Native.Nat.{ℕ, ◌≤◌}
use native.Mathlib.Omega.{arith}
use lib.ListN.{length, take, drop, replicate}
use Rattle.words.specs.Words.{decode, canonical}
use Rattle.words.proofs.Round.{decode-groups}
use Rattle.blocks.specs.Sizes.{value_room, update_room, block_size}
use Rattle.blocks.specs.Inner.{Limits, with_value}
use Rattle.blocks.specs.Block.{update_list, current, padded, with_update, block_of, zero_list}
use Rattle.blocks.specs.Whole.{update_ones, whole_lists}
use Rattle.blocks.specs.declared.sizes.Sizes.{Sizes}
use Rattle.blocks.proofs.Blocks.{ValueIs, UpdateIs, length-block_of, value-block_of, update-block_of, both_put}
use Rattle.blocks.proofs.Rooms.{padded-front}
use Rattle.blocks.proofs.WholeLists.{canonical-groups, parts_whole}
use Rattle.blocks.proofs.ZeroList.{length-zero_list, decode-zero_list, canonical-zero_list, ones-zero_list}
use Rattle.lists.proofs.Exclusive.{xor-zeros}

-- V is the list and U is all zero
abbrev pub emptied : Sizes → List ℕ → List ℕ
emptied sizes list = block_of sizes list (zero_list sizes)

module _ (sizes : Sizes) (limits : Limits sizes) (list : List ℕ) (fits : length list ≤ value_room sizes) where
  zeros_fit : length (zero_list sizes) ≤ update_room sizes
  zeros_fit = omega (arith, length-zero_list sizes limits)

  pub length-emptied : length (emptied sizes list) ≡ block_size sizes
  length-emptied = length-block_of sizes list (zero_list sizes) fits zeros_fit

  pub value-emptied : ValueIs sizes (length list) (padded (value_room sizes) list) list (emptied sizes list)
  value-emptied = value-block_of sizes list (zero_list sizes) fits zeros_fit

  pub update-emptied : UpdateIs sizes (length (zero_list sizes)) (padded (update_room sizes) (zero_list sizes)) (zero_list sizes) (emptied sizes list)
  update-emptied = update-block_of sizes list (zero_list sizes) fits zeros_fit

  pub ones-emptied : update_ones sizes (emptied sizes list) ≡ 0
  unfolding update_ones
  ones-emptied = rw update-emptied.lists (ones-zero_list sizes limits)

  pub decode-update-emptied : decode (update_list sizes (emptied sizes list)) ≡ replicate sizes.groups 0
  decode-update-emptied = ap decode update-emptied.lists ∙ decode-zero_list sizes limits

  module _ (good : canonical sizes.rows list ≡ true) where
    -- THEOREM: V xor U are the groups of the list
    pub current-emptied : current sizes (emptied sizes list) ≡ decode list
    unfolding current
    current-emptied =
        rw (value-emptied.lists, decode-update-emptied)
        (xor-zeros sizes.groups (decode list) (decode-groups list) (canonical-groups sizes limits list good).long)

    -- THEOREM: both lists are whole
    pub whole-emptied : whole_lists sizes (emptied sizes list) ≡ true
    whole-emptied =
        parts_whole sizes (emptied sizes list)
        (record {
          value_short = rw value-emptied.counts fits;
          update_short = rw update-emptied.counts zeros_fit;
          value_canonical = rw value-emptied.lists good;
          update_canonical = rw update-emptied.lists (canonical-zero_list sizes limits);
          few_ones = omega (arith, ones-emptied);
        })

  -- V is put from an array of zeros in which its list was made, and then U is cleared
  pub emptied-written : (block : List ℕ) → length block ≡ block_size sizes
      → (count zeros : ℕ) (room put last : List ℕ) → count ≡ length list → value_room sizes ≤ zeros → room ≡ list ++ drop count (replicate zeros 0)
      → put ≡ with_value sizes count (take (value_room sizes) room) block
      → last ≡ with_update sizes 1 (padded (update_room sizes) (zero_list sizes)) put
      → last ≡ emptied sizes list
  emptied-written block long count zeros room put last c large r p e =
      let first : put ≡ with_value sizes (length list) (padded (value_room sizes) list) block =
      p ∙ rw (r, padded-front (value_room sizes) list count zeros c (omega arith) large, c) refl in
      e ∙ rw first (rw (length-zero_list sizes limits) at (both_put sizes list (zero_list sizes) fits zeros_fit block long))
