-- Definitions that the contracts of inner functions alone cite.
use Rattle.std.specs.Prelude.{Option, Some, None, cond, List, ◌++◌, ◌∷◌, ◌≡◌, ℕ, ◌≤◌}
use Rattle.groups.specs.Rows.{row_limit, groups_for}
use Rattle.blocks.specs.Block.{update_length, update_words}
use Rattle.blocks.specs.Whole.{whole_lists, update_ones}
use Rattle.blocks.specs.Sizes.{Sizes, value_room, update_room, block_size, fence_count}
use Rattle.blocks.specs.declared.sizes.Sizes.TheInside.{Inside}

-- a block with another length and other words for V
unfoldable pub with_value : Sizes → ℕ → List ℕ → List ℕ → List ℕ
with_value sizes count words block = count ∷ update_length block ∷ (words ++ update_words sizes block)

-- R is 1 to 126,976, T 1 to 255, G 1 to 256, and the other sizes are those of these numbers
pub record Limits (sizes : Sizes) : Type 0 where
  pub some_rows : 1 ≤ sizes.rows
  pub few_rows : sizes.rows ≤ row_limit
  pub some_threshold : 1 ≤ sizes.threshold
  pub few_threshold : sizes.threshold ≤ 255
  pub some_spacing : 1 ≤ sizes.spacing
  pub few_spacing : sizes.spacing ≤ 256
  pub groups_are : sizes.groups ≡ groups_for sizes.rows
  pub value_room_is : value_room sizes ≡ sizes.groups
  pub update_room_is : sizes.update_room ≡ update_room sizes
  pub block_is : sizes.block ≡ block_size sizes
  pub fences_are : sizes.fences ≡ fence_count sizes

-- what the check finds: the ones of U, where both lists are whole
unfoldable pub whole_of : Sizes → List ℕ → Option ℕ
whole_of sizes block = cond (whole_lists sizes block) (Some (update_ones sizes block)) None

-- what stands in the code's fields, and back
abbrev pub numbers_of : Inside → Sizes
numbers_of a =
    record {
      rows = a.rows;
      groups = a.groups;
      value_room = a.value_room;
      update_room = a.update_room;
      threshold = a.threshold;
      spacing = a.spacing;
      block = a.block;
      fences = a.fences;
    }

abbrev pub fields_of : Sizes → Inside
fields_of a =
    record {
      rows = a.rows;
      groups = a.groups;
      value_room = a.value_room;
      update_room = a.update_room;
      threshold = a.threshold;
      spacing = a.spacing;
      block = a.block;
      fences = a.fences;
    }
