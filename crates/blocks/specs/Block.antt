-- Document 01, "Memory of an index": the block of one value, as a list by itself, and its place in the lent words.
use Rattle.std.specs.Prelude.{List, ◌∷◌, ◌++◌, ℕ, ◌+◌, ◌-◌, length, get_or, take, drop, replicate}
use Rattle.words.specs.Words.{decode, encode}
use Rattle.lists.specs.Combine.{exclusive, combined}
use Rattle.blocks.specs.Sizes.{value_room, update_room}
use Rattle.blocks.specs.declared.sizes.Sizes.{Sizes}

-- so many items of a list from a place on
unfoldable pub part : {A : Type 0} → List A → ℕ → ℕ → List A
part items at count = take count (drop at items)

-- a list with other items from a place on
unfoldable pub write : {A : Type 0} → List A → ℕ → List A → List A
write items at new = take at items ++ (new ++ drop (at + length new) items)

-- the value list's length and the update list's length
abbrev pub value_length : List ℕ → ℕ
value_length block = get_or block 0 0

abbrev pub update_length : List ℕ → ℕ
update_length block = get_or block 1 0

-- the words of V's room, and of U's
unfoldable pub value_words : Sizes → List ℕ → List ℕ
value_words sizes block = part block 2 (value_room sizes)

unfoldable pub update_words : Sizes → List ℕ → List ℕ
update_words sizes block = part block (2 + value_room sizes) (update_room sizes)

-- V and U
unfoldable pub value_list : Sizes → List ℕ → List ℕ
value_list sizes block = take (value_length block) (value_words sizes block)

unfoldable pub update_list : Sizes → List ℕ → List ℕ
update_list sizes block = take (update_length block) (update_words sizes block)

-- the groups of V xor U
unfoldable pub current : Sizes → List ℕ → List ℕ
current sizes block = combined exclusive (decode (value_list sizes block)) (decode (update_list sizes block))

-- a list in its room: unused words are zero
unfoldable pub padded : ℕ → List ℕ → List ℕ
padded room list = list ++ replicate (room - length list) 0

-- a block with another length and other words for U
unfoldable pub with_update : Sizes → ℕ → List ℕ → List ℕ → List ℕ
with_update sizes count words block = value_length block ∷ count ∷ (value_words sizes block ++ words)

-- the block of two lists
unfoldable pub block_of : Sizes → List ℕ → List ℕ → List ℕ
block_of sizes value update = length value ∷ length update ∷ (padded (value_room sizes) value ++ padded (update_room sizes) update)

-- the all-zero list
unfoldable pub zero_list : Sizes → List ℕ
zero_list sizes = encode (replicate sizes.groups 0)
