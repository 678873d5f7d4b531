-- What the code of a turn makes, the XOR of U and the list of one row, and the block that it leaves. Assumes nothing.
use mathlib.Core.Path.{◌≡◌, ◌∙◌, ap}
use mathlib.Core.Bool.{true}
use mathlib.Core.List.{List, ◌++◌}
use Prim.Native.Nat.{ℕ, ◌/◌, ◌<◌, ◌≤◌}
use native.Mathlib.Omega.{arith}
use lib.ListN.{length, take, drop, replicate}
use Rattle.words.specs.Words.{decode, encode}
use Rattle.words.proofs.Canonical.{canonical_parts}
use Rattle.lists.specs.Combine.{exclusive, combined}
use Rattle.lists.specs.Inner.{Formed, Covers, one_row, Packs}
use Rattle.lists.specs.declared.one_row.Short.{Short}
use Rattle.lists.proofs.OneRow.{decode-one_row, one_row_covers}
use Rattle.lists.proofs.TurningOver.{xor-one_row}
use Rattle.blocks.specs.Sizes.{update_room}
use Rattle.blocks.specs.Inner.{Limits}
use Rattle.blocks.specs.Block.{update_list, with_update}
use Rattle.blocks.specs.Whole.{whole_lists}
use Rattle.block_change.specs.Change.{turned_list, turned}
use Rattle.blocks.specs.declared.sizes.Sizes.{Sizes}
use Rattle.blocks.proofs.Rooms.{padded-front}
use Rattle.blocks.proofs.WholeLists.{whole_parts, update_covers}

-- `left` is U, and `short` packs the row
module _ (sizes : Sizes) (limits : Limits sizes) (row : ℕ) (h : row < sizes.rows) (block : List ℕ) (whole : whole_lists sizes block ≡ true)
    (left : List ℕ) (l : left ≡ update_list sizes block) (short : Short) (packs : Packs (one_row sizes.groups row) short) where
  within : row / 31 < sizes.groups
  within = omega arith

  few : sizes.groups ≤ 4096
  few = omega arith

  abbrev right : List ℕ
  right = take short.count short.words

  -- the list of the XOR is U with the row turned over
  is_turned : encode (combined exclusive (decode left) (decode right)) ≡ turned_list sizes row block
  unfolding turned_list
  is_turned =
      rw (l, decode-one_row sizes.groups row within (omega (arith, few)) short packs)
      (ap encode (xor-one_row sizes.groups row (decode (update_list sizes block)) (update_covers sizes limits block whole).long within))

  -- the XOR may be made, and leaves that list
  pub turns : (out : List ℕ) → length (turned_list sizes row block) ≤ length out
      → Covers sizes.groups left × Covers sizes.groups right × (sizes.groups ≤ 4096)
      × (length (encode (combined exclusive (decode left) (decode right))) ≤ length out) × Formed left
  turns out room = (
    rw l (update_covers sizes limits block whole),
    one_row_covers sizes.groups row within (omega (arith, few)) short packs,
    few,
    rw is_turned room,
    rw l (canonical_parts sizes.rows (update_list sizes block) (whole_parts sizes block whole).update_canonical).form,
  )

  pub combined-turned : (count : ℕ) (out last : List ℕ)
      → (count ≡ length (encode (combined exclusive (decode left) (decode right))))
      × (last ≡ encode (combined exclusive (decode left) (decode right)) ++ drop count out)
      → (count ≡ length (turned_list sizes row block)) × (last ≡ turned_list sizes row block ++ drop count out)
  combined-turned count out last made = rw is_turned at made

-- the list is made in an array of zeros and then put in U's room
pub turned-written : (sizes : Sizes) (row : ℕ) (block : List ℕ) → length (turned_list sizes row block) ≤ update_room sizes
    → (count zeros : ℕ) (room last : List ℕ) → count ≡ length (turned_list sizes row block) → update_room sizes ≤ zeros
    → room ≡ turned_list sizes row block ++ drop count (replicate zeros 0)
    → last ≡ with_update sizes count (take (update_room sizes) room) block
    → last ≡ turned sizes row block
unfolding turned
turned-written sizes row block fits count zeros room last counts large made put =
    put ∙ rw (made, padded-front (update_room sizes) (turned_list sizes row block) count zeros counts (omega arith) large, counts)
