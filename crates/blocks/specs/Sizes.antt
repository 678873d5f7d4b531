-- Document 01, "Memory of an index": the sizes that the blocks of all values share.
use Rattle.std.specs.Prelude.{ℕ, ◌+◌, ◌-◌, ◌*◌, ◌/◌}
use Rattle.groups.specs.Rows.{groups_for}

-- the numbers of an index, whatever its header
pub record Sizes : Type 0 where
  pub rows : ℕ
  pub groups : ℕ
  pub value_room : ℕ
  pub update_room : ℕ
  pub threshold : ℕ
  pub spacing : ℕ
  pub block : ℕ
  pub fences : ℕ

-- 2T + 1: the words of an update list's room
abbrev pub update_room_for : ℕ → ℕ
update_room_for threshold = 2 * threshold + 1

-- B: the words of a block, for the words of V's room
abbrev pub block_for : ℕ → ℕ → ℕ
block_for room threshold = 2 + room + update_room_for threshold

-- F = M / G rounded up: the fences of a value
unfoldable pub fences_for : ℕ → ℕ → ℕ
fences_for groups spacing = (groups + (spacing - 1)) / spacing

-- row capacity R with M taken from it, threshold T, fence spacing G; V has room for M words
abbrev pub sizes_for : ℕ → ℕ → ℕ → Sizes
sizes_for rows threshold spacing =
    record {
      rows = rows;
      groups = groups_for rows;
      value_room = groups_for rows;
      update_room = update_room_for threshold;
      threshold = threshold;
      spacing = spacing;
      block = block_for (groups_for rows) threshold;
      fences = fences_for (groups_for rows) spacing;
    }

-- the words of V's room and of U's, B and F
abbrev pub value_room : Sizes → ℕ
value_room sizes = sizes.value_room

abbrev pub update_room : Sizes → ℕ
update_room sizes = update_room_for sizes.threshold

abbrev pub block_size : Sizes → ℕ
block_size sizes = block_for (value_room sizes) sizes.threshold

abbrev pub fence_count : Sizes → ℕ
fence_count sizes = fences_for sizes.groups sizes.spacing
