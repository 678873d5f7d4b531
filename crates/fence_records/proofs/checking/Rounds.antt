-- One round of Audit: a value's lists, its rows beside those before it, and its fences. Assumes nothing.
use mathlib.Core.Path.{◌≡◌, refl, sym, ap, ◌∙◌}
use mathlib.Core.Bool.{Bool, true, false, ◌&&◌, and-eq-true_iff}
use mathlib.Core.Logic.{by_cases}
use mathlib.Core.List.{List, ◌++◌}
use Prim.Native.Nat.{ℕ, suc, ◌+◌, ◌<◌, ◌≤◌}
use native.Mathlib.Decide.{dec_lt}
use native.Mathlib.Omega.{arith}
use lib.Dec.{leb}
use lib.ListN.{length, take, drop, replicate}
use Rattle.groups.specs.Inner.{Groups}
use Rattle.lists.specs.Combine.{combined}
use Rattle.lists.specs.Inner.{either, apart}
use Rattle.blocks.specs.Sizes.{value_room}
use Rattle.blocks.specs.Audit.{sound_lists}
use Rattle.blocks.specs.Block.{value_length, current}
use Rattle.blocks.proofs.SizeLaws.{few-groups}
use Rattle.blocks.proofs.WholeLists.{whole_parts}
use Rattle.audit_value.proofs.SoundLists.{sound_parts}
use Rattle.memory.specs.Inner.{Planned, Fenced}
use Rattle.memory.specs.Fences.{right_fences}
use Rattle.memory.specs.Memory.{Memory, memory_of, within_limits, sizes_of, lent, block_at, list_at, rows_in, fences_at, sound_value, every, holders_of, is_sound}
use Rattle.memory.specs.declared.header.Header.{Header}
use Rattle.block_read.specs.declared.fence.Fence.{Fence}
use Rattle.blocks.specs.declared.sizes.Sizes.{Sizes}
use Rattle.memory.proofs.Places.{planned_lent, one_more, numbers, header-limits, fenced}
use Rattle.fence_records.proofs.Every.{every_holds, holds_every}
use Rattle.fence_records.proofs.Taken.{taken_before, apart_up_to, apart_stops, SoundUpTo, apart-holders}
use Rattle.fence_records.proofs.Taking.{Taking, taking_begins, taking_on}

contradicts : {P : Type 0} (test : Bool) → test ≡ true → test ≡ false → P
contradicts test holds fails = absurd (let z : ◌≡◌ {A = ℕ} 0 1 = cc in omega arith)

-- the first values are sound, no row is in two of them, and their rows are taken
pub record Audited (header : Header) (words : List ℕ) (fences : List Fence) (value : ℕ) (now : List ℕ) : Type 0 where
  pub values : (before : ℕ) → before < value → sound_value header (memory_of words fences) before ≡ true
  pub apart_so_far : apart_up_to header words value ≡ true
  pub taking : Taking header words value now

module _ {header : Header} {sizes : Sizes} (words : List ℕ) (fences : List Fence) (is : Planned header sizes (length words) (length fences)) where
  abbrev memory : Memory
  memory = memory_of words fences

  abbrev few : ℕ → Bool
  few row = leb (holders_of (sizes_of header) words row header.values) 1

  -- ---- what a sound index says of each value

  abbrev lists : ℕ → Bool
  lists value = sound_lists (sizes_of header) header.issued (block_at (sizes_of header) words value)

  abbrev right : ℕ → Bool
  right value =
      right_fences (sizes_of header) (list_at (sizes_of header) words value) 0 (fences_at (sizes_of header) fences value)

  abbrev alone : ℕ → Bool
  alone value = apart (taken_before header words value) (rows_in (sizes_of header) words value)

  same_value : (value : ℕ) → sound_value header memory value ≡ lists value && right value
  unfolding sound_value
  same_value value = refl

  says : is_sound header memory ≡ true → (every header.values (sound_value header memory) ≡ true) × (every header.issued few ≡ true)
  unfolding is_sound
  says e =
      let entered = within_limits header && lent header (length words) (length fences) in
      let values = every header.values (sound_value header memory) in
      let two = (and-eq-true_iff (entered && values) (every header.issued few)).0 e in
      (((and-eq-true_iff entered values).0 two.0).1, two.1)

  module _ (holds : is_sound header memory ≡ true) where
    parts : (every header.values (sound_value header memory) ≡ true) × (every header.issued few ≡ true)
    parts = says holds

    both : (value : ℕ) → value < header.values → (lists value ≡ true) × (right value ≡ true)
    both value below =
        (and-eq-true_iff (lists value) (right value)).0
        (sym (same_value value) ∙ every_holds header.values (sound_value header memory) parts.0 value below)

    all_apart : apart_up_to header words header.values ≡ true
    all_apart = apart-holders header words (header-limits is) header.values (λ value below. (both value below).0) ∙ parts.1

    is_alone : (value : ℕ) → value < header.values → alone value ≡ true
    is_alone value below = go (alone value) refl
      where
        go : (test : Bool) → alone value ≡ test → test ≡ true
        go true e = refl
        go false e = contradicts (apart_up_to header words header.values) all_apart (apart_stops header words header.values value below e)

  -- a value that fails is enough
  not_sound : (value : ℕ) → value < header.values → (lists value && alone value && right value) ≡ false → is_sound header memory ≡ false
  not_sound value below fails = go (is_sound header memory) refl
    where
      go : (test : Bool) → is_sound header memory ≡ test → test ≡ false
      go true holds =
          contradicts (lists value && alone value && right value)
          (rw ((both holds value below).0, is_alone holds value below, (both holds value below).1) refl) fails
      go false e = refl

  -- ---- the loop

  pub none_audited : (taken : List ℕ) → taken ≡ replicate 4096 0 → Audited header words fences 0 taken
  none_audited taken clear =
      record {
        values = λ before h. absurd (omega arith);
        apart_so_far = refl;
        taking = rw clear (taking_begins header words 4096 (few-groups (sizes_of header) (header-limits is)));
      }

  module _ (value : ℕ) (below : value < header.values) (now : List ℕ) (so_far : Audited header words fences value now) where
    pub value_asks : Fenced sizes (length words) (length fences) value × (header.issued ≤ sizes.rows) × Groups now × (sizes.groups ≤ length now)
    value_asks = (
      fenced is value below,
      rw is.planned (numbers is).few_issued,
      so_far.taking.small,
      rw is.planned so_far.taking.room,
    )

    -- what `audit_value` promises
    module _ (fine : Bool) (left : List ℕ) (told : fine
        ≡ (sound_lists sizes header.issued (block_at sizes words value)
        && apart (take sizes.groups now) (current sizes (block_at sizes words value))
        && right_fences sizes (list_at sizes words value) 0 (fences_at sizes fences value))) where
      answer_is : fine ≡ lists value && alone value && right value
      unfolding rows_in
      answer_is = rw (← so_far.taking.front) (told ∙ rw is.planned refl)

      pub value_fails : fine ≡ false → false ≡ is_sound header memory
      value_fails fails = sym (not_sound value below (sym answer_is ∙ fails))

      pub value_audited : fine ≡ true
          → (fine ≡ true
          → left ≡ combined either (take sizes.groups now) (current sizes (block_at sizes words value)) ++ drop sizes.groups now)
          → Audited header words fences (value + 1) left
      unfolding rows_in
      value_audited holds takes =
          let here = (and-eq-true_iff (lists value && alone value) (right value)).0 (sym answer_is ∙ holds) in
          let first = (and-eq-true_iff (lists value) (alone value)).0 here.0 in
          let this-sound : sound_value header memory value ≡ true = same_value value ∙ rw (first.0, here.1) refl in
          let all : (before : ℕ) → before < suc value → sound_value header memory before ≡ true =
          λ before h.
          by_cases (dec_lt before value) (so_far.values before)
          (λ last. let this : before ≡ value = omega (arith, h, last) in rw this this-sound) in
          let sounds : SoundUpTo header words (suc value) =
          λ before h. ((and-eq-true_iff (lists before) (right before)).0 (sym (same_value before) ∙ all before h)).0 in
          rw (one_more value)
          (record {
            values = all;
            apart_so_far = rw (so_far.apart_so_far, first.1) refl;
            taking = taking_on so_far.taking (header-limits is) sounds left (takes holds ∙ rw is.planned refl);
          })

  pub all_audited : (value : ℕ) → value ≡ header.values → (now : List ℕ) → Audited header words fences value now → true ≡ is_sound header memory
  unfolding is_sound
  all_audited value all now done =
      let each : every header.values (sound_value header memory) ≡ true =
      holds_every header.values (sound_value header memory) (λ before h. done.values before (omega (arith, h, all))) in
      let sounds : SoundUpTo header words header.values =
      λ before h. ((and-eq-true_iff (lists before) (right before)).0 (sym (same_value before) ∙ done.values before (omega (arith, h, all)))).0 in
      let rows : every header.issued few ≡ true =
      sym (apart-holders header words (header-limits is) header.values sounds) ∙ ap (apart_up_to header words) (sym all) ∙ done.apart_so_far in
      rw (is.holds, planned_lent is, each, rows) refl

-- ---- one value: the lists, then the fences

module _ (sizes : Sizes) (words : List ℕ) (fences : List Fence) (issued value : ℕ) (taken : List ℕ) (inside : Fenced sizes (length words) (length fences) value) where
  abbrev sounds : Bool
  sounds = sound_lists sizes issued (block_at sizes words value)

  abbrev free : Bool
  free = apart (take sizes.groups taken) (current sizes (block_at sizes words value))

  abbrev fits : Bool
  fits = right_fences sizes (list_at sizes words value) 0 (fences_at sizes fences value)

  -- the groups with the value's rows taken too
  abbrev more : List ℕ
  more = combined either (take sizes.groups taken) (current sizes (block_at sizes words value)) ++ drop sizes.groups taken

  module _ (fine : Bool) (left : List ℕ) (listed : (fine ≡ (sounds && free)) × (fine ≡ true → left ≡ more)) where
    pub lists_fail : fine ≡ false → (false ≡ (sounds && free && fits)) × (false ≡ true → left ≡ more)
    lists_fail fails = (rw (sym listed.0 ∙ fails) refl, λ e. contradicts true refl (sym e))

    module _ (holds : fine ≡ true) where
      both_hold : sounds && free ≡ true
      both_hold = sym listed.0 ∙ holds

      pub fences_ask : Fenced sizes (length words) (length fences) value × (value_length (block_at sizes words value) ≤ value_room sizes)
      fences_ask =
          let holds-lists = ((and-eq-true_iff sounds free).0 both_hold).0 in
          (inside, (whole_parts sizes (block_at sizes words value) (sound_parts sizes issued (block_at sizes words value) holds-lists).whole).value_short)

      pub fences_tell : (same : Bool) → same ≡ fits → (same ≡ (sounds && free && fits)) × (same ≡ true → left ≡ more)
      fences_tell same compared = (compared ∙ rw both_hold refl, λ e. listed.1 holds)
