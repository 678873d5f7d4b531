-- `spread` meets its contract: the blocks are cleared, and then its loop keeps `Spreading`. Assumes nothing.
use Rattle.std.proofs.Common.{◌≡◌, ℕ, ◌+◌, ◌*◌, ◌<◌, ◌≤◌, List, ◌++◌, length, take, drop, replicate, refl, ap, ◌∙◌, arith, rules, length-drop, length-take-le}
use Rattle.std.specs.Iterator.Adapters.{enumerate_count}
use Rattle.groups.specs.Rows.{group_of, groups_for}
use Rattle.blocks.specs.Sizes.{block_size}
use Rattle.blocks.specs.Inner.{Limits}
use Rattle.blocks.specs.declared.sizes.Sizes.{Sizes}
use Rattle.load_list.specs.Column.{rows_with}
use Rattle.load_column.specs.Inner.{Clear, Placed, Spread}
use Rattle.load_column.proofs.spread.Spreading.{Spreading, Turn, turn, length-cleared, all_clear, spread_none, place_inside, spread_more, spread_all, spread_over}
use Rattle.load_column.proofs.spread.spread.Goals as goal

module _ (sizes : Sizes) (values : ℕ) (column words : List ℕ)
    (limits : Limits sizes) (r : (values * block_size sizes ≤ length words) × (values ≤ 64) × (length column ≤ sizes.rows)) where
  -- the groups have a place in a block
  room : 2 + groups_for (length column) ≤ sizes.block
  room = omega (arith, limits.groups_are, limits.value_room_is, limits.block_is, r.2)

  -- the words of all blocks are lent
  lent : values * sizes.block ≤ length words
  lent = rw limits.block_is r.0

  -- 0 stands in them once they are cleared
  module _ {front : List ℕ} (zeros : front ≡ replicate (length (take (values * sizes.block) words)) 0) where
    abbrev words₀ : List ℕ
    words₀ = front ++ drop (values * sizes.block) words

    cleared : words₀ ≡ replicate (values * sizes.block) 0 ++ drop (values * sizes.block) words
    cleared = rw (zeros, length-take-le (values * sizes.block) words lent) refl

    still_lent : values * sizes.block ≤ length words₀
    still_lent = rw (cleared, length-cleared words (values * sizes.block) lent) lent

    begins : Spreading sizes.block values column words₀ words₀ 2 0
    begins = spread_none _ _ _ _ (all_clear _ _ words words₀ lent cleared)

    module _ {now : List ℕ} {place at : ℕ} (p : Spreading sizes.block values column words₀ now place at) where
      module _ {rows rest : List ℕ} (next : Turn column rows rest at) where
        asks : (length rows ≤ 31) × (values ≤ 64) × (place < sizes.block) × (values * sizes.block ≤ length now) × Clear values sizes.block place now
        asks =
            let inside = place_inside room still_lent p next.more in
            (next.few, r.1, inside, omega (arith, still_lent, p.same), p.clear place (omega arith) inside)

        goes_on : {left : List ℕ} → Placed values sizes.block place (λ value. group_of 31 (rows_with value rows)) now left
            → Spreading sizes.block values column words₀ left (place + 1) (at + length rows)
        goes_on {left} placed = spread_more room still_lent p next.more (at + length rows) next.end left (rw next.rows_are placed)

      ends : {none : List ℕ} → none ≡ drop at column → length none ≡ 0 → Spread sizes.block values column words now
      ends these nothing =
          spread_over _ _ words words₀ lent cleared (spread_all room still_lent p (omega (arith, ap length these, length-drop at column, nothing)))

pub loop-group-init : goal.loop-group-init
loop-group-init c =
    let first : enumerate_count c.into_iter-group-iterator.result ≡ 0 = rw c.into_iter-group-iterator.ensures.into_iter_gives c.enumerate-group-items.ensures.count in
    (search rules, tt, search rules, (0, search rules, rw first (begins _ _ _ _ c.sizes.invariant (rw (← c.sizes.view_is) at c.requires) (c.fill.ensures.after (λ word same. same)))))

pub spread_group-requires : goal.spread_group-requires
spread_group-requires c =
    let kept = c.loop-group.invariant in
    let steps = c.in-Some.ensures.steps in
    rw steps.1
    (asks _ _ _ _ c.sizes.invariant (rw (← c.sizes.view_is) at c.requires) (c.fill.ensures.after (λ word same. same)) kept.3.2 (turn kept.3.1 steps.0.1.0 kept.2 steps.0.1.1 steps.0.1.2))

pub loop-group-preserved : goal.loop-group-preserved
loop-group-preserved c =
    let kept = c.loop-group.invariant in
    let steps = c.in-Some.ensures.steps in
    let place : 2 + enumerate_count c.next.new.self ≡ 2 + enumerate_count c.loop-group.group-iterator + 1 = omega (arith, steps.2) in
    let next = turn kept.3.1 steps.0.1.0 kept.2 steps.0.1.1 steps.0.1.2 in
    let passed = goes_on _ _ _ _ c.sizes.invariant (rw (← c.sizes.view_is) at c.requires) (c.fill.ensures.after (λ word same. same)) kept.3.2 next (rw steps.1 at c.spread_group.ensures) in
    (search rules, tt, steps.0.0 ∙ kept.2, (kept.3.0 + length c.in-Some.rows.now, next.rest_is, rw place passed))

pub returns : goal.returns
returns c =
    let kept = c.loop-group.invariant in
    rw (← c.sizes.view_is) (ends _ _ _ _ c.sizes.invariant (rw (← c.sizes.view_is) at c.requires) (c.fill.ensures.after (λ word same. same)) kept.3.2 kept.3.1 c.in-None.ensures.steps.0.1.0)
