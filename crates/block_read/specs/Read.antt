-- Document 01, "Reading one bit": the group of a row in V, from its fence's word on, in U, from its first word on, and in V xor U.
use Rattle.std.specs.Prelude.{Option, Some, None, cond, ◌&&◌, List, ℕ, ◌+◌, leb, ltb, drop}
use Rattle.words.specs.Words.{run_of, group_in}
use Rattle.lists.specs.Combine.{exclusive, on_group}
use Rattle.list_walk.specs.Walk.{walk_to}
use Rattle.list_walk.specs.declared.walk.Covering.{Covering}
use Rattle.blocks.specs.Sizes.{value_room, update_room}
use Rattle.blocks.specs.Block.{value_length, update_length, value_list, update_list}
use Rattle.blocks.specs.declared.sizes.Sizes.{Sizes}
use Rattle.block_read.specs.declared.fence.Fence.{Fence}
use Rattle.block_read.specs.declared.read.Reading.{Reading}

-- the group that a walk found, and the words it opened
abbrev pub group_read : Option Covering → Option Reading
group_read (Some covering) = Some (record { group = group_in (run_of covering.word); opened = covering.opened })
group_read None = None

-- in V: damage if V's length exceeds its room or the fence's place is not below V's length; at most G words are opened
unfoldable pub read_value : Sizes → Fence → ℕ → List ℕ → Option Reading
read_value sizes fence group block =
    cond (leb (value_length block) (value_room sizes) && ltb fence.place (value_length block))
    (group_read (walk_to (drop fence.place (value_list sizes block)) fence.first group sizes.spacing))
    None

-- in U: damage if U's length exceeds 2T + 1; at most 2T + 1 words are opened
unfoldable pub read_update : Sizes → ℕ → List ℕ → Option Reading
read_update sizes group block =
    cond (leb (update_length block) (update_room sizes)) (group_read (walk_to (update_list sizes block) 0 group (update_room sizes))) None

-- the bits are V xor U, and each word fetched from either list counts as one opened
abbrev pub joined : Option Reading → Option Reading → Option Reading
joined (Some value) (Some update) = Some (record { group = on_group exclusive value.group update.group; opened = value.opened + update.opened })
joined (Some value) None = None
joined None update = None

-- the group in V xor U, given its fence
unfoldable pub read_group : Sizes → Fence → ℕ → List ℕ → Option Reading
read_group sizes fence group block = joined (read_value sizes fence group block) (read_update sizes group block)
