-- What a read answers: damage by a length or a place, what the walk over a list finds, and V's answer with U's. Assumes nothing.
use Rattle.std.specs.Prelude.{Some, Option, None}
use mathlib.Core.Path.{◌≡◌, refl}
use mathlib.Core.List.{List}
use Prim.Native.Nat.{ℕ, ◌+◌, ◌-◌, ◌<◌, ◌≤◌}
use native.Mathlib.Omega.{arith}
use lib.ListN.{length, take, drop, length-drop}
use lib.Bits.{bit_xor}
use lib.Seq.{take_all}
use borrow.Author.Tests.{le-leb, lt-leb, lt-ltb, le-ltb}
use Rattle.list_walk.specs.Walk.{walk_to}
use Rattle.lists.proofs.Operations.{xor-on_group}
use Rattle.blocks.specs.Sizes.{value_room, update_room}
use Rattle.blocks.specs.Block.{value_length, update_length, value_list, update_list}
use Rattle.block_read.specs.Read.{group_read, read_value, read_update, joined, read_group}
use Rattle.blocks.specs.declared.sizes.Sizes.{Sizes}
use Rattle.block_read.specs.declared.fence.Fence.{Fence}
use Rattle.block_read.specs.declared.read.Reading.{Reading}
use Rattle.block_read.proofs.Readings.{read_as, value_says, update_says}

module _ (sizes : Sizes) (block : List ℕ) (group : ℕ) where
  -- ---- U

  pub update_long : update_room sizes < update_length block → None ≡ read_update sizes group block
  unfolding read_update
  update_long h = rw (lt-leb (update_length block) (update_room sizes) h) refl

  pub update_walked : update_length block ≤ update_room sizes → (list : List ℕ) → list ≡ update_list sizes block → (room : ℕ) → room ≡ update_room sizes
      → group_read (walk_to list 0 group room) ≡ read_update sizes group block
  unfolding read_update
  update_walked h list is room e = rw (le-leb (update_length block) (update_room sizes) h, is, e) refl

  -- ---- V

  module _ (fence : Fence) where
    pub value_long : value_room sizes < value_length block → None ≡ read_value sizes fence group block
    unfolding read_value
    value_long h = rw (lt-leb (value_length block) (value_room sizes) h) refl

    module _ (h : value_length block ≤ value_room sizes) where
      pub value_misplaced : value_length block ≤ fence.place → None ≡ read_value sizes fence group block
      unfolding read_value
      value_misplaced k = rw (le-leb (value_length block) (value_room sizes) h, le-ltb fence.place (value_length block) k) refl

      -- the part of V from the fence's word on
      pub value_walked : fence.place < value_length block → (list : List ℕ) → list ≡ value_list sizes block
          → (budget : ℕ) → budget ≡ sizes.spacing
          → group_read (walk_to (take (length list - fence.place) (drop fence.place list)) fence.first group budget)
          ≡ read_value sizes fence group block
      unfolding read_value
      value_walked k list is budget e =
          rw (
            take_all (length list - fence.place) (drop fence.place list) (omega (arith, length-drop fence.place list)),
            le-leb (value_length block) (value_room sizes) h,
            lt-ltb fence.place (value_length block) k,
            is,
            e,
          )
          refl

-- ---- V xor U

-- whatever is read in V, damage in U is damage
pub broken_update : (reading : Option Reading) → None ≡ joined reading None
broken_update (Some value) = refl
broken_update None = refl

-- two readings, of V and of U, with the machine's XOR of their groups
pub group_joined : (sizes : Sizes) (block : List ℕ) (fence : Fence) (group left valueOpened right updateOpened : ℕ)
    → read_value sizes fence group block ≡ read_as left valueOpened → read_update sizes group block ≡ read_as right updateOpened
    → read_as (bit_xor left right) (valueOpened + updateOpened) ≡ read_group sizes fence group block
unfolding read_group
group_joined sizes block fence group left valueOpened right updateOpened value update =
    let small = (value_says sizes block fence group left valueOpened value).small in
    rw (value, update, xor-on_group left right small (update_says sizes block group right updateOpened update).small) refl
