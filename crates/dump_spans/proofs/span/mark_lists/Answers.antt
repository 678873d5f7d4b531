-- `mark_lists` meets its contract. The loop's invariant: the groups before `group` are marked, and `v` and `u` are the words that cover `group`.
-- Assumes nothing.
use Rattle.std.specs.Prelude.{None, Option, Some}
use mathlib.Core.Path.{◌≡◌, ◌∙◌, sym}
use mathlib.Core.Bool.{Bool, true, false}
use mathlib.Core.List.{List}
use Prim.Native.Nat.{ℕ, ◌+◌, ◌-◌, ◌<◌, ◌≤◌}
use native.Mathlib.Omega.{arith}
use lib.Bits.{bit_xor}
use lib.ListN.{length}
use Rattle.groups.specs.Rows.{groups_for}
use Rattle.words.specs.Words.{run_of, group_in}
use Rattle.words.specs.Inner.{Alone}
use Rattle.list_walk.specs.Walk.{walk_to}
use Rattle.list_walk.specs.declared.walk.Covering.{Covering}
use Rattle.blocks.specs.declared.sizes.Sizes.{Sizes}
use Rattle.block_read.specs.declared.read.Reading.{Reading}
use Rattle.dump_marks.specs.Inner.{alike}
use Rattle.dump_spans.specs.Inner.{in_lists}
use Rattle.dump_spans.proofs.span.Spanning.{Spanned, Spanning, begin, keeps_length, ends, next-groups, stops_at, breaks_at}
use Rattle.dump_spans.proofs.span.Reaching.{Reached, bits_small, value_broken, update_broken, read_alike}
use Rattle.blocks.proofs.Opened.{spacing_read, update_room_read}
use Rattle.dump_spans.proofs.span.mark_lists.Goals as goal

-- the first group is not read
none_read : (reading : ℕ → Option Reading) (issued value from to : ℕ) (rows : List ℕ) → from < to → to ≤ groups_for issued → issued ≤ length rows
    → reading from ≡ None → Spanned reading issued value from to rows rows false
none_read reading issued value from to rows more on room broken =
    breaks_at reading issued value (begin reading issued value from to rows (omega arith)) more (omega arith) room broken

-- a walk that went on to group `end` is a walk there
walked_on : (list : List ℕ) (first group end room limit : ℕ) → group < end → room ≡ limit → {v : Covering} {found is : Option Covering}
    → walk_to list first group limit ≡ Some v
    → ((start before : ℕ) → walk_to list start before room ≡ Some v → found ≡ walk_to list start (before + (end - group)) room)
    → found ≡ is → walk_to list first end limit ≡ is
walked_on list first group end room limit more same here on is =
    let there : group + (end - group) ≡ end = omega arith in
    rw (there, same) at (sym (on first group (rw (← same) at here)) ∙ is)

-- a turn: the groups up to `end`, which the words of `group` cover, are marked
module _ {sizes : Sizes} {list update : List ℕ} {first issued value from to group end : ℕ} {rows₀ rows next : List ℕ} {v u : Covering} {told : Bool}
    (loop : Spanning (in_lists sizes list update first) issued value from to rows₀ rows group × Reached sizes list update first to group v u)
    {in_v in_u : ℕ} (v_is : in_v ≡ group_in (run_of v.word)) (u_is : in_u ≡ group_in (run_of u.word))
    (ahead : (group < end) × (end ≤ to) × (end - group ≤ v.beyond + 1) × (end - group ≤ u.beyond + 1) × Alone (bit_xor in_v in_u) (end - group))
    (marks : Spanned (alike (bit_xor in_v in_u)) issued value group end rows next told) where
  marked : Spanned (in_lists sizes list update first) issued value group end rows next told
  marked = read_alike _ _ _ _ loop.1 end ahead.2 ahead.3 _ _ _ _ _ (rw (v_is, u_is) at marks)

  stops : told ≡ false → Spanned (in_lists sizes list update first) issued value from to rows₀ next false
  stops fails = stops_at _ _ _ loop.0 end ahead.0 ahead.1 next told fails marked

  goes : told ≡ true → Spanning (in_lists sizes list update first) issued value from to rows₀ next end
  goes holds = next-groups _ _ _ loop.0 end ahead.0 ahead.1 next told holds marked

  -- but the next group is not read
  breaks : told ≡ true → (end ≡ to → ⊥) → to ≤ groups_for issued → issued ≤ length rows₀ → in_lists sizes list update first end ≡ None
      → Spanned (in_lists sizes list update first) issued value from to rows₀ next false
  breaks holds other few room broken =
      let done = goes holds in breaks_at _ _ _ done (omega arith) (omega arith) (omega (arith, keeps_length _ _ _ done)) broken

pub returns-in_default : goal.returns-in_default
returns-in_default c =
    none_read _ _ _ _ _ _ c.requires.0 c.requires.1 c.requires.2 (value_broken c.args.sizes _ _ _ _ (rw (spacing_read c.sizes.view_is) at (sym c.walk_to.ensures ∙ c.in_default.is)))

pub returns-in_default-walk_to : goal.returns-in_default-walk_to
returns-in_default-walk_to c =
    none_read _ _ _ _ _ _ c.requires.0 c.requires.1 c.requires.2
    (update_broken c.args.sizes _ _ _ _ _ (rw (spacing_read c.sizes.view_is) at (sym c.walk_to.ensures ∙ c.in-Some.is))
    (rw (update_room_read c.sizes.view_is c.sizes.invariant) at (sym c.walk_to-2.ensures ∙ c.in_default-walk_to.is)))

pub loop-span-init : goal.loop-span-init
loop-span-init c = (
  begin _ _ _ _ _ _ (omega arith),
  record {
    more = c.requires.0;
    value_found = rw (spacing_read c.sizes.view_is) at (sym c.walk_to.ensures ∙ c.in-Some.is);
    update_found = rw (update_room_read c.sizes.view_is c.sizes.invariant) at (sym c.walk_to-2.ensures ∙ c.in-Some-walk_to.is);
  },
)

pub mark_groups-requires : goal.mark_groups-requires
mark_groups-requires c =
    let same = keeps_length _ _ _ c.loop-span.invariant.0 in (
      rw (c.group_in.ensures, c.group_in-in-loop-span.ensures) (bits_small c.loop-span.v c.loop-span.u),
      omega arith,
      c.alike_up_to-end.ensures.4,
      omega arith,
      omega arith,
    )

pub returns-then-not-mark_groups : goal.returns-then-not-mark_groups
returns-then-not-mark_groups c =
    stops c.loop-span.invariant c.group_in.ensures c.group_in-in-loop-span.ensures c.alike_up_to-end.ensures c.mark_groups.ensures
    c.if-not-mark_groups.true

pub returns-then-end-span : goal.returns-then-end-span
returns-then-end-span c =
    let done = goes c.loop-span.invariant c.group_in.ensures c.group_in-in-loop-span.ensures c.alike_up_to-end.ensures c.mark_groups.ensures
    c.if-not-mark_groups.false in
    ends _ _ _ done (omega arith)

pub returns-in_default-walk_on : goal.returns-in_default-walk_on
returns-in_default-walk_on c =
    breaks c.loop-span.invariant c.group_in.ensures c.group_in-in-loop-span.ensures c.alike_up_to-end.ensures c.mark_groups.ensures
    c.if-not-mark_groups.false c.if-end-span.false c.requires.1 c.requires.2
    (value_broken c.args.sizes _ _ _ _
    (walked_on _ _ _ _ _ _ c.alike_up_to-end.ensures.0 (spacing_read c.sizes.view_is) c.loop-span.invariant.1.value_found c.walk_on.ensures c.in_default-walk_on.is))

pub returns-in_default-walk_on-2 : goal.returns-in_default-walk_on-2
returns-in_default-walk_on-2 c =
    let more = c.alike_up_to-end.ensures.0 in
    let reached = c.loop-span.invariant.1 in
    breaks c.loop-span.invariant c.group_in.ensures c.group_in-in-loop-span.ensures c.alike_up_to-end.ensures c.mark_groups.ensures
    c.if-not-mark_groups.false c.if-end-span.false c.requires.1 c.requires.2
    (update_broken c.args.sizes _ _ _ _ _ (walked_on _ _ _ _ _ _ more (spacing_read c.sizes.view_is) reached.value_found c.walk_on.ensures c.in-Some-walk_on.is)
    (walked_on _ _ _ _ _ _ more (update_room_read c.sizes.view_is c.sizes.invariant) reached.update_found c.walk_on-in-loop-span.ensures c.in_default-walk_on-2.is))

pub loop-span-preserved : goal.loop-span-preserved
loop-span-preserved c =
    let more = c.alike_up_to-end.ensures.0 in
    let reached = c.loop-span.invariant.1 in (
      goes c.loop-span.invariant c.group_in.ensures c.group_in-in-loop-span.ensures c.alike_up_to-end.ensures c.mark_groups.ensures
          c.if-not-mark_groups.false,
      record {
        more = omega arith;
        value_found = walked_on _ _ _ _ _ _ more (spacing_read c.sizes.view_is) reached.value_found c.walk_on.ensures c.in-Some-walk_on.is;
        update_found = walked_on _ _ _ _ _ _ more (update_room_read c.sizes.view_is c.sizes.invariant) reached.update_found c.walk_on-in-loop-span.ensures
            c.in-Some-walk_on-2.is;
      },
    )
