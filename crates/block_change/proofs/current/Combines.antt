-- The combination of the lists of a block whose lists are whole: it may be made, and it is V xor U; where U is zeros, V is. Assumes nothing.
use mathlib.Core.Path.{◌≡◌, refl, ◌∙◌, ap, sym}
use mathlib.Core.Bool.{true}
use mathlib.Core.List.{List, [], ◌∷◌, ◌++◌}
use Prim.Native.Nat.{ℕ, zero, suc, ◌+◌, ◌≤◌}
use native.Mathlib.Omega.{arith}
use lib.ListN.{length, take, drop, replicate}
use lib.Seq.{get_or-drop}
use Rattle.words.specs.Words.{decode, encode}
use Rattle.words.proofs.Canonical.{canonical_parts}
use Rattle.words.proofs.Round.{Words, encode-decode, decode-groups}
use Rattle.lists.proofs.Exclusive.{xor-zeros}
use Rattle.lists.specs.Combine.{exclusive, combined}
use Rattle.lists.specs.Inner.{Formed, Covers}
use Rattle.blocks.specs.Sizes.{value_room, block_size}
use Rattle.blocks.specs.Inner.{Limits}
use Rattle.blocks.specs.Block.{part, value_length, value_words, value_list, update_list, current}
use Rattle.blocks.specs.Whole.{whole_lists}
use Rattle.blocks.specs.declared.sizes.Sizes.{Sizes}
use Rattle.blocks.proofs.Blocks.{length-value_list}
use Rattle.blocks.proofs.WholeLists.{whole_parts, value_covers, update_covers, current-fits}

-- the first words of words are words, and V has some of the block's
words_take : (count : ℕ) (list : List ℕ) → Words list → Words (take count list)
words_take zero list all i = omega arith
words_take (suc count) [] all i = all i
words_take (suc count) (word ∷ list) all zero = all zero
words_take (suc count) (word ∷ list) all (suc i) = words_take count list (λ j. all (suc j)) i

pub words-value : (sizes : Sizes) (block : List ℕ) → Words block → Words (value_list sizes block)
unfolding value_list value_words part
words-value sizes block all =
    words_take (value_length block) (take (value_room sizes) (drop 2 block)) (words_take (value_room sizes) (drop 2 block) (λ i. rw get_or-drop (all (2 + i))))

-- V is no longer than all groups
pub value_short : (sizes : Sizes) (block left : List ℕ) → left ≡ value_list sizes block → Limits sizes → length block ≡ block_size sizes
    → whole_lists sizes block ≡ true → length left ≤ sizes.groups
value_short sizes block left l limits long whole =
    let fits = (whole_parts sizes block whole).value_short in
    rw l (omega (arith, length-value_list sizes block long fits, fits, limits.value_room_is))

module _ (sizes : Sizes) (block left right : List ℕ) (l : left ≡ value_list sizes block) (r : right ≡ update_list sizes block) where
  is_current : combined exclusive (decode left) (decode right) ≡ current sizes block
  unfolding current
  is_current = rw (l, r) refl

  formed : whole_lists sizes block ≡ true → Formed left
  formed whole = rw l (canonical_parts sizes.rows (value_list sizes block) (whole_parts sizes block whole).value_canonical).form

  pub combines : Limits sizes → whole_lists sizes block ≡ true → (out : List ℕ) → sizes.groups ≤ length out
      → Covers sizes.groups left × Covers sizes.groups right × (sizes.groups ≤ 4096)
      × (length (encode (combined exclusive (decode left) (decode right))) ≤ length out) × Formed left
  combines limits whole out room = (
    rw l (value_covers sizes limits block whole),
    rw r (update_covers sizes limits block whole),
    omega arith,
    rw is_current (omega (arith, current-fits sizes limits block whole)),
    formed whole,
  )

  pub combined-current : (count : ℕ) (out last : List ℕ)
      → (count ≡ length (encode (combined exclusive (decode left) (decode right))))
      × (last ≡ encode (combined exclusive (decode left) (decode right)) ++ drop count out)
      → (count ≡ length (encode (current sizes block))) × (last ≡ encode (current sizes block) ++ drop count out)
  combined-current count out last made = rw is_current at made

  -- where U is zeros, the words of V xor U are those of V
  pub copied_current : Limits sizes → whole_lists sizes block ≡ true → Words left → decode right ≡ replicate (length (decode right)) 0
      → (count : ℕ) (out last : List ℕ) → count ≡ length left → last ≡ left ++ drop (length left) out
      → (count ≡ length (encode (current sizes block))) × (last ≡ encode (current sizes block) ++ drop count out)
  copied_current limits whole words zeros count out last c e =
      let covers = rw (← l) at (value_covers sizes limits block whole) in
      let long = rw (← r) at (update_covers sizes limits block whole) in
      let same : combined exclusive (decode left) (decode right) ≡ decode left =
      rw (zeros, long.long) (xor-zeros sizes.groups (decode left) (decode-groups left) covers.long) in
      let list : encode (current sizes block) ≡ left = ap encode (sym is_current ∙ same) ∙ encode-decode left words (formed whole) in
      (rw list c, rw (list, c) e)
