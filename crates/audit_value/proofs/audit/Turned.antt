-- V and U turned over in groups of zeros, one after the other: they make V xor U. Assumes nothing.
use mathlib.Core.Path.{◌≡◌, refl, ◌∙◌, ap, sym}
use mathlib.Core.Bool.{true}
use mathlib.Core.List.{List, ◌++◌}
use Prim.Native.Nat.{ℕ, ◌-◌, ◌≤◌}
use native.Mathlib.Omega.{arith}
use lib.ListN.{length, take, drop, replicate, length-append, length-replicate}
use lib.Seq.{take_at, drop_at}
use Rattle.groups.specs.Inner.{Groups}
use Rattle.words.specs.Words.{decode}
use Rattle.groups.proofs.Groups.{groups-drop, groups-append, groups-zeros}
use Rattle.words.proofs.Round.{decode-groups}
use Rattle.lists.specs.Combine.{exclusive, combined}
use Rattle.lists.proofs.Exclusive.{zeros-xor}
use Rattle.blocks.specs.Inner.{Limits}
use Rattle.blocks.specs.Block.{value_list, update_list, current, padded}
use Rattle.blocks.specs.Whole.{whole_lists}
use Rattle.blocks.specs.declared.sizes.Sizes.{Sizes}
use Rattle.blocks.proofs.Rooms.{take-zeros, drop-zeros, take-padded}
use Rattle.blocks.proofs.WholeLists.{value_covers, update_covers, length-current}

-- one list turned over in the first of some groups
abbrev pub turned_by : List ℕ → List ℕ → List ℕ
turned_by list groups = combined exclusive (take (length (decode list)) groups) (decode list) ++ drop (length (decode list)) groups

module _ (sizes : Sizes) (limits : Limits sizes) (block : List ℕ) (whole : whole_lists sizes block ≡ true) (room : ℕ) where
  value_long : length (decode (value_list sizes block)) ≡ sizes.groups
  value_long = (value_covers sizes limits block whole).long

  update_long : length (decode (update_list sizes block)) ≡ sizes.groups
  update_long = (update_covers sizes limits block whole).long

  -- the groups that neither list reaches
  abbrev rest : List ℕ
  rest = drop sizes.groups (replicate room 0)

  -- V's slice, and the groups as they are lent
  module _ (few : sizes.groups ≤ room) (left groups : List ℕ) (l : left ≡ value_list sizes block) (clear : groups ≡ replicate room 0) where
    pub value_asks : Groups groups × (length (decode left) ≤ length groups)
    value_asks = (rw clear (groups-zeros room), rw (l, clear, length-replicate, value_long) few)

    -- the groups behind V, and U's slice
    module _ (once : List ℕ) (turns : once ≡ turned_by left groups) (right : List ℕ) (r : right ≡ update_list sizes block) where
      value-turned : once ≡ decode (value_list sizes block) ++ rest
      value-turned =
          let value = decode (value_list sizes block) in
          turns
          ∙ rw (
            l,
            clear,
            value_long,
            take-zeros sizes.groups room few,
            zeros-xor sizes.groups value (decode-groups (value_list sizes block)) value_long,
          )
          refl

      pub update_asks : Groups once × (length (decode right) ≤ length once)
      update_asks = (
        rw value-turned
            (groups-append (decode (value_list sizes block)) rest (decode-groups (value_list sizes block))
            (groups-drop sizes.groups (replicate room 0) (groups-zeros room))),
        rw (r, update_long, value-turned, length-append, value_long) (omega arith),
      )

      -- the groups behind both
      pub both_turned : (twice : List ℕ) → twice ≡ turned_by right once → twice ≡ padded room (current sizes block)
      unfolding padded current
      both_turned twice e =
          let value = decode (value_list sizes block) in
          e
          ∙ rw (r, value-turned, update_long, take_at value rest sizes.groups value_long, drop_at value rest sizes.groups value_long) refl
          ∙ ap (◌++◌ (current sizes block))
          (drop-zeros sizes.groups room
          ∙ ap (λ (count : ℕ). replicate (room - count) 0) (sym (length-current sizes limits block whole)))

  -- of which the first M are V xor U
  pub front-turned : take sizes.groups (padded room (current sizes block)) ≡ current sizes block
  front-turned =
      ap (λ (count : ℕ). take count (padded room (current sizes block))) (sym (length-current sizes limits block whole))
      ∙ take-padded room (current sizes block)
