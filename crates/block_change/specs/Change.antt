-- Document 01, "What the calls do": a merge and a flip of a row in one value.
use Rattle.std.specs.Prelude.{Bool, cond, ◌&&◌, List, ℕ, leb, eqb, length}
use Rattle.groups.specs.Rows.{row_at}
use Rattle.words.specs.Words.{decode, encode}
use Rattle.lists.specs.OneRow.{turned_over}
use Rattle.blocks.specs.Sizes.{update_room}
use Rattle.blocks.specs.Block.{update_list, current, padded, with_update, block_of, zero_list}
use Rattle.blocks.specs.Whole.{update_ones}
use Rattle.blocks.specs.declared.sizes.Sizes.{Sizes}

-- V becomes V xor U and U becomes all zero
unfoldable pub merged : Sizes → List ℕ → List ℕ
merged sizes block = block_of sizes (encode (current sizes block)) (zero_list sizes)

-- U with the row turned over
unfoldable pub turned_list : Sizes → ℕ → List ℕ → List ℕ
turned_list sizes row block = encode (turned_over row (decode (update_list sizes block)))

-- U's bit of the row is turned over; V stays as it stands
unfoldable pub turned : Sizes → ℕ → List ℕ → List ℕ
turned sizes row block =
    with_update sizes (length (turned_list sizes row block)) (padded (update_room sizes) (turned_list sizes row block)) block

-- a merge comes first if the row's bit in U is 0 and U already has T ones
unfoldable pub merge_due : Sizes → ℕ → List ℕ → Bool
merge_due sizes row block = eqb (row_at (decode (update_list sizes block)) row) 0 && leb sizes.threshold (update_ones sizes block)

-- a flip of the row
unfoldable pub flipped : Sizes → ℕ → List ℕ → List ℕ
flipped sizes row block = turned sizes row (cond (merge_due sizes row block) (merged sizes block) block)
