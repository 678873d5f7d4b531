-- A store of a length and a copy into a room: what they leave, and that this is the changed block. Assumes nothing.
use mathlib.Core.Path.{◌≡◌, refl, ◌∙◌, ap}
use mathlib.Core.List.{List, [], ◌∷◌, ◌++◌, append-nil}
use Prim.Native.Nat.{ℕ, suc, ◌+◌, ◌-◌, ◌<◌, ◌≤◌}
use native.Mathlib.Omega.{arith}
use lib.ListN.{length, set, take, drop, replicate, length-drop, length-set, drop_of_length-le}
use lib.Seq.{length-take-le, take_all}
use Rattle.words.specs.Words.{Run.fill, word_of}
use Rattle.blocks.specs.Sizes.{value_room, update_room, block_size}
use Rattle.blocks.specs.Inner.{Limits, with_value}
use Rattle.blocks.specs.Block.{part, write, value_words, update_words, padded, with_update, zero_list}
use Rattle.blocks.specs.declared.sizes.Sizes.{Sizes}
use Rattle.blocks.proofs.Parts.{length-write, write-lent, write-set}
use Rattle.blocks.proofs.ZeroList.{zero_list_room}

-- ---- a count is stored at a place of some words, and then the first words of a room are copied to as many words from another place on

module _ (words : List ℕ) (place count from : ℕ) (room : List ℕ) (size : ℕ) (fits : from + size ≤ length words) (enough : size ≤ length room) where
  copies : length (take size room) ≡ size
  copies = length-take-le size room enough

  lends : length (take (from + size - from) (drop from (set words place count))) ≡ size
  lends =
      let long : from + size - from ≤ length (drop from (set words place count)) = simp (length-drop, length-set) (omega arith) in
      length-take-le (from + size - from) (drop from (set words place count)) long ∙ omega arith

  pub copy_fits : length (take size room) ≤ length (take (from + size - from) (drop from (set words place count)))
  copy_fits = omega (arith, copies, lends)

  module _ (within : place < length words) (copied : List ℕ)
      (c : copied ≡ take size room ++ drop (length (take size room)) (take (from + size - from) (drop from (set words place count)))) where
    pub stored : take from (set words place count) ++ (copied ++ drop (from + size - from) (drop from (set words place count)))
        ≡ write (write words place (count ∷ [])) from (take size room)
    stored =
        let lent = take (from + size - from) (drop from (set words place count)) in
        let none = drop_of_length-le lent {i = length (take size room)} (omega (arith, copies, lends)) in
        let whole : copied ≡ take size room = c ∙ ap (◌++◌ (take size room)) none ∙ append-nil (take size room) in
        rw whole
        (write-lent (set words place count) from (from + size - from) (take size room) (copies ∙ omega arith)
        ∙ ap (λ (l : List ℕ). write l from (take size room)) (write-set words place count within))

    pub stored_long : length (take from (set words place count) ++ (copied ++ drop (from + size - from) (drop from (set words place count)))) ≡ length words
    stored_long =
        let first : length (write words place (count ∷ [])) ≡ length words = length-write words place (count ∷ []) (omega arith) in
        rw stored (length-write (write words place (count ∷ [])) from (take size room) (omega (arith, copies)) ∙ first)

-- ---- the block

-- THEOREM: V's length and V's room
pub value_writes : (sizes : Sizes) (count : ℕ) (list block : List ℕ) → length block ≡ block_size sizes → length list ≡ value_room sizes
    → write (write block 0 (count ∷ [])) 2 list ≡ with_value sizes count list block
unfolding write with_value update_words part
value_writes sizes count list [] b l = absurd (omega arith)
value_writes sizes count list (x ∷ []) b l = absurd (omega arith)
value_writes sizes count list (x ∷ y ∷ rest) b l =
    let behind : 2 + value_room sizes ≡ suc (suc (value_room sizes)) = omega arith in
    rw (l, behind, take_all (update_room sizes) (drop (value_room sizes) rest) (simp length-drop (omega arith))) refl

-- THEOREM: U's length and U's room
pub update_writes : (sizes : Sizes) (count : ℕ) (list block : List ℕ) → length block ≡ block_size sizes → length list ≡ update_room sizes
    → write (write block 1 (count ∷ [])) (2 + value_room sizes) list ≡ with_update sizes count list block
unfolding write with_update value_words part
update_writes sizes count list [] b l = absurd (omega arith)
update_writes sizes count list (x ∷ []) b l = absurd (omega arith)
update_writes sizes count list (x ∷ y ∷ rest) b l =
    let behind : 2 + value_room sizes ≡ suc (suc (value_room sizes)) = omega arith in
    rw (drop_of_length-le (x ∷ count ∷ rest) {i = 2 + value_room sizes + length list} (omega arith), append-nil, behind) refl

-- U's room made of one word and zeros
pub cleared : (sizes : Sizes) → Limits sizes → (block : List ℕ) (word zeros : ℕ) (last : List ℕ) → word ≡ word_of (fill 0 sizes.groups)
    → update_room sizes ≤ zeros
    → last ≡ with_update sizes 1 (take (update_room sizes) (set (replicate zeros 0) 0 word)) block
    → last ≡ with_update sizes 1 (padded (update_room sizes) (zero_list sizes)) block
cleared sizes limits block word zeros last e large put = rw (zero_list_room sizes limits word zeros e large) at put
