-- When there is a reading: in whole lists each group is read within the budgets, from a word on that covers a group less than G before it.
-- Assumes nothing.
use Rattle.std.specs.Prelude.{Option}
use mathlib.Core.Path.{◌≡◌, refl, ◌∙◌, ap, sym}
use mathlib.Core.Bool.{true}
use mathlib.Core.List.{List}
use Prim.Native.Nat.{ℕ, ◌+◌, ◌-◌, ◌*◌, ◌/◌, ◌<◌, ◌≤◌}
use native.Mathlib.Omega.{arith}
use lib.ListN.{length, get_or, drop, length-take}
use borrow.Author.Tests.{le-leb, lt-ltb}
use Rattle.words.specs.Words.{span, decode}
use Rattle.words.proofs.Forms.{run_at}
use Rattle.lists.specs.Combine.{exclusive}
use Rattle.lists.specs.Inner.{Covers}
use Rattle.list_walk.specs.Walk.{walk_to}
use Rattle.lists.proofs.Combining.{get_or-combined}
use Rattle.list_walk.proofs.Walks.{Finds, found, found_from, finds, finds_from}
use Rattle.blocks.specs.Sizes.{value_room, update_room}
use Rattle.blocks.specs.Inner.{Limits}
use Rattle.blocks.specs.Block.{value_length, update_length, value_words, update_words, value_list, update_list, current}
use Rattle.block_read.specs.Fences.{fence_at}
use Rattle.block_read.specs.Read.{group_read, read_value, read_update, read_group}
use Rattle.blocks.specs.Whole.{whole_lists}
use Rattle.block_read.specs.declared.fence.Fence.{Fence}
use Rattle.blocks.specs.declared.sizes.Sizes.{Sizes}
use Rattle.block_read.specs.declared.read.Reading.{Reading}
use Rattle.block_read.proofs.FenceLaws.{fence_leads}
use Rattle.block_read.proofs.Readings.{read_as, first_at}
use Rattle.blocks.proofs.SizeLaws.{fence_before_lem, fence_near}
use Rattle.blocks.proofs.WholeLists.{whole_parts, value_covers, update_covers}

-- a reading of a group, with at most so many words opened
pub record Reaches (reading : Option Reading) (bits most : ℕ) : Type 0 where
  pub opened : ℕ
  pub reads : reading ≡ read_as bits opened
  pub few : opened ≤ most

-- a walk that finds its word
walk-reads : (list : List ℕ) (place first group budget most : ℕ) → first ≡ first_at list place → Finds (walk_to (drop place list) first group budget) most
    → Reaches (group_read (walk_to (drop place list) first group budget)) (get_or (decode list) group 0) budget
walk-reads list place first group budget most right there =
    let covering = there.covering in
    record {
      opened = covering.opened;
      reads = rw there.found (ap (λ (bits : ℕ). read_as bits covering.opened) (found_from list place first group budget covering right there.found));
      few = (found (drop place list) first group budget covering there.found).paid;
    }

-- no list is longer than its length says
module _ (sizes : Sizes) (block : List ℕ) where
  value-few : length (value_list sizes block) ≤ value_length block
  unfolding value_list
  value-few = omega (arith, length-take (value_length block) (value_words sizes block))

  update-few : length (update_list sizes block) ≤ update_length block
  unfolding update_list
  update-few = omega (arith, length-take (update_length block) (update_words sizes block))

module _ (sizes : Sizes) (limits : Limits sizes) (block : List ℕ) (whole : whole_lists sizes block ≡ true) (group : ℕ) (h : group < sizes.groups) where
  value : Covers sizes.groups (value_list sizes block)
  value = value_covers sizes limits block whole

  update : Covers sizes.groups (update_list sizes block)
  update = update_covers sizes limits block whole

  -- THEOREM: in a whole U each group is read
  pub update-reads : Reaches (read_update sizes group block) (get_or (decode (update_list sizes block)) group 0) (update_room sizes)
  unfolding read_update
  update-reads =
      let fits = (whole_parts sizes block whole).update_short in
      rw (le-leb (update_length block) (update_room sizes) fits)
      (walk-reads (update_list sizes block) 0 0 group (update_room sizes) (group - 0 + 1) refl
      (finds (update_list sizes block) (update_room sizes) update.filled 0 group (omega arith)
      (omega (arith, update.long)) (omega (arith, fits, update-few sizes block))))

  -- a fence to a word of V that covers a group less than G before the one sought
  module _ (fence : Fence) (near : ℕ) (within : fence.place < length (value_list sizes block))
      (right : fence.first ≡ first_at (value_list sizes block) fence.place) (begins : fence.first ≤ near)
      (covered : near < fence.first + span (run_at (value_list sizes block) fence.place)) (behind : near ≤ group)
      (close : group < near + sizes.spacing) where
    -- THEOREM: in a whole V each group is read from such a word on
    pub value-reads : Reaches (read_value sizes fence group block) (get_or (decode (value_list sizes block)) group 0) sizes.spacing
    unfolding read_value
    value-reads =
        rw (
          le-leb (value_length block) (value_room sizes) (whole_parts sizes block whole).value_short,
          lt-ltb fence.place (value_length block) (omega (arith, value-few sizes block)),
        )
        (walk-reads (value_list sizes block) fence.place fence.first group sizes.spacing (group - near + 1) right
        (finds_from (value_list sizes block) sizes.spacing fence.place fence.first near group value.filled right begins covered behind close
        (omega (arith, value.long))))

    -- THEOREM: in whole lists each group of V xor U is read
    pub group_reads : Reaches (read_group sizes fence group block) (get_or (current sizes block) group 0) (sizes.spacing + update_room sizes)
    unfolding read_group current
    group_reads =
        let groups = get_or-combined exclusive (decode (value_list sizes block)) (decode (update_list sizes block)) group in
        let both = groups (value.long ∙ sym update.long) (omega (arith, value.long)) in
        record {
          opened = value-reads.opened + update-reads.opened;
          reads = rw (value-reads.reads, update-reads.reads, both) refl;
          few = omega (arith, value-reads.few, update-reads.few);
        }

  -- THEOREM: in whole lists each group of V xor U is read from its fence on
  pub fence_reads : (fence : Fence) → fence ≡ fence_at sizes (value_list sizes block) (group / sizes.spacing)
      → Reaches (read_group sizes fence group block) (get_or (current sizes block) group 0) (sizes.spacing + update_room sizes)
  fence_reads fence e =
      let j = group / sizes.spacing in
      let before = fence_before_lem sizes limits group in
      let leads = rw (← e) at (fence_leads sizes (value_list sizes block) j (omega (arith, value.long, before))) in
      group_reads fence (j * sizes.spacing) leads.inside leads.stands.begins leads.stands.early leads.covered
      before (fence_near sizes limits group)
