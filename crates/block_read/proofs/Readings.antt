-- What a reading of V, of U and of V xor U says: of the words opened, and of the group that was read. Assumes nothing.
use Rattle.std.specs.Prelude.{Option, Some, None}
use mathlib.Core.Path.{◌≡◌, refl, ◌∙◌, ap, ap₂, sym}
use mathlib.Core.Bool.{Bool, true, false, cond, ◌&&◌}
use mathlib.Core.List.{List}
use Prim.Native.Nat.{ℕ, ◌+◌, ◌-◌, ◌<◌, ◌≤◌}
use native.Mathlib.Omega.{arith}
use lib.Dec.{leb, ltb}
use lib.ListN.{length, get_or, take, drop}
use Rattle.words.specs.Words.{run_of, group_in, decode}
use Rattle.words.proofs.Round.{decode-groups}
use Rattle.lists.specs.Combine.{exclusive, on_group}
use Rattle.list_walk.specs.Walk.{walk_to}
use Rattle.lists.proofs.Combining.{get_or-combined}
use Rattle.lists.proofs.Operations.{exclusive_bits, on_group-lt}
use Rattle.lists.proofs.Covering.{length_rest}
use Rattle.list_walk.proofs.Walks.{found, found_group, found_from}
use Rattle.blocks.specs.Sizes.{value_room, update_room}
use Rattle.blocks.specs.Block.{value_length, update_length, value_list, update_list, current}
use Rattle.block_read.specs.Read.{group_read, read_value, read_update, joined, read_group}
use Rattle.blocks.specs.declared.sizes.Sizes.{Sizes}
use Rattle.block_read.specs.declared.fence.Fence.{Fence}
use Rattle.block_read.specs.declared.read.Reading.{Reading}
use Rattle.list_walk.specs.declared.walk.Covering.{Covering}

-- ---- one list

-- the first group that the word at a place of a list covers
abbrev pub first_at : List ℕ → ℕ → ℕ
first_at list place = length (decode (take place list))

-- what a reading from a place of a list on says: of the words opened, and, if the first group given for the place is right, of the group read
pub record Says (list : List ℕ) (place first group budget bits opened : ℕ) : Type 0 where
  pub started : first ≤ group
  pub some : 0 < opened
  pub few : opened ≤ budget
  pub within : opened ≤ length (drop place list)
  pub small : bits < 0x80000000
  pub inside : first ≡ first_at list place → group < length (decode list)
  pub same : first ≡ first_at list place → bits ≡ get_or (decode list) group 0

-- a group, and the words opened to find it
abbrev pub read_as : ℕ → ℕ → Option Reading
read_as group opened = Some (record { group = group; opened = opened })

not_read : {bits opened : ℕ} → None ≡ read_as bits opened → ⊥
not_read e = let same : ◌≡◌ {A = ℕ} 0 1 = cc in omega arith

-- two readings that are equal have the same group, and as many words opened
pub same_reading : {bits opened other more : ℕ} → read_as bits opened ≡ read_as other more → (bits ≡ other) × (opened ≡ more)
same_reading {bits} {opened} {other} {more} e =
    let same : ◌≡◌ {A = Reading} (record { group = bits; opened = opened }) (record { group = other; opened = more }) = cc in
    (ap (λ (reading : Reading). reading.group) same, ap (λ (reading : Reading). reading.opened) same)

module _ (list : List ℕ) (place first group budget bits opened : ℕ) where
  walk_says : (walk : Option Covering) → walk_to (drop place list) first group budget ≡ walk → group_read walk ≡ read_as bits opened
      → Says list place first group budget bits opened
  walk_says None w e = absurd (not_read e)
  walk_says (Some covering) w e =
      let read : group_in (run_of covering.word) ≡ bits = (same_reading e).0 in
      let count : covering.opened ≡ opened = (same_reading e).1 in
      let there = found (drop place list) first group budget covering w in
      record {
        started = there.started;
        some = omega (arith, there.some);
        few = omega (arith, there.paid);
        within = omega (arith, there.few);
        small = omega (arith, found_group (drop place list) first group budget covering w, decode-groups (drop place list) (group - first));
        inside = λ right. omega (arith, there.started, there.inside, length_rest list place first right);
        same = λ right. sym read ∙ found_from list place first group budget covering right w;
      }

  -- a reading behind a test
  test_says : (test : Bool) → cond test (group_read (walk_to (drop place list) first group budget)) None ≡ read_as bits opened
      → Says list place first group budget bits opened
  test_says true e = walk_says (walk_to (drop place list) first group budget) refl e
  test_says false e = absurd (not_read e)

module _ (sizes : Sizes) (block : List ℕ) where
  -- THEOREM: what a reading of V says
  pub value_says : (fence : Fence) (group bits opened : ℕ) → read_value sizes fence group block ≡ read_as bits opened
      → Says (value_list sizes block) fence.place fence.first group sizes.spacing bits opened
  unfolding read_value
  value_says fence group bits opened e =
      test_says (value_list sizes block) fence.place fence.first group sizes.spacing bits opened
      (leb (value_length block) (value_room sizes) && ltb fence.place (value_length block)) e

  -- THEOREM: what a reading of U says, from its first word on
  pub update_says : (group bits opened : ℕ) → read_update sizes group block ≡ read_as bits opened
      → Says (update_list sizes block) 0 0 group (update_room sizes) bits opened
  unfolding read_update
  update_says group bits opened e =
      test_says (update_list sizes block) 0 0 group (update_room sizes) bits opened (leb (update_length block) (update_room sizes)) e

  -- ---- both lists

  -- what a reading of V xor U says; of the group, if the fence's first group is that of its place in V and both lists have as many groups
  pub record GroupSays (fence : Fence) (group bits opened : ℕ) : Type 0 where
    pub some : 0 < opened
    pub few : opened ≤ sizes.spacing + update_room sizes
    pub small : bits < 0x80000000
    pub same : fence.first ≡ first_at (value_list sizes block) fence.place → length (decode (value_list sizes block)) ≡ length (decode (update_list sizes block))
        → bits ≡ get_or (current sizes block) group 0

  -- THEOREM: what a reading of V xor U says
  pub group_says : (fence : Fence) (group bits opened : ℕ) → read_group sizes fence group block ≡ read_as bits opened
      → GroupSays fence group bits opened
  unfolding read_group current
  group_says fence group bits opened e = go (read_value sizes fence group block) (read_update sizes group block) refl refl e
    where
      go : (value update : Option Reading) → read_value sizes fence group block ≡ value → read_update sizes group block ≡ update
          → joined value update ≡ read_as bits opened → GroupSays fence group bits opened
      go None update v u e = absurd (not_read e)
      go (Some left) None v u e = absurd (not_read e)
      go (Some left) (Some right) v u e =
          let value = value_says fence group left.group left.opened v in
          let update = update_says group right.group right.opened u in
          let both : left.opened + right.opened ≡ opened = (same_reading e).1 in
          let bits_are : on_group exclusive left.group right.group ≡ bits = (same_reading e).0 in
          record {
            some = omega (arith, value.some);
            few = omega (arith, value.few, update.few);
            small = omega (arith, bits_are, on_group-lt exclusive exclusive_bits left.group right.group);
            same = λ begins long.
                sym bits_are
                ∙ ap₂ (on_group exclusive) (value.same begins) (update.same refl)
                ∙ sym (get_or-combined exclusive (decode (value_list sizes block)) (decode (update_list sizes block)) group long (value.inside begins));
          }

-- ---- one row
