-- A span of a block's groups: when the reads are broken, and when they are the walks over the two lists. Assumes nothing.
use Rattle.std.specs.Prelude.{Some, Option, None}
use mathlib.Core.Path.{◌≡◌, refl, ◌∙◌, sym}
use mathlib.Core.Bool.{Bool, true, false}
use mathlib.Core.List.{List}
use Prim.Native.Nat.{ℕ, ◌-◌, ◌<◌, ◌≤◌}
use native.Mathlib.Omega.{arith}
use lib.ListN.{length, take, drop}
use Rattle.groups.specs.Rows.{groups_for}
use Rattle.blocks.specs.Sizes.{value_room, update_room}
use Rattle.blocks.specs.Block.{value_length, update_length, value_list, update_list}
use Rattle.blocks.specs.declared.sizes.Sizes.{Sizes}
use Rattle.block_read.specs.Read.{joined, read_value, read_group}
use Rattle.block_read.specs.declared.fence.Fence.{Fence}
use Rattle.block_read.specs.declared.read.Reading.{Reading}
use Rattle.block_read.proofs.read.Exits.{update_long, update_walked, value_long, value_misplaced, value_walked}
use Rattle.dump_marks.specs.Inner.{groups_hold, groups_marked}
use Rattle.dump_marks.proofs.marking.Spans.{Agree, agree_same, holds_agree, marked_agree}
use Rattle.dump_spans.specs.Inner.{in_lists, in_block, span_holds, span_marked}
use Rattle.dump_spans.specs.declared.span.Span.{Span}
use Rattle.dump_spans.proofs.span.Spanning.{Spanned, begin, ends, breaks_at}

joined_broken : (reading : Option Reading) → joined reading None ≡ None
joined_broken (Some value) = refl
joined_broken None = refl

module _ (sizes : Sizes) (fence : Fence) (block : List ℕ) (span : Span) (rows : List ℕ) where
  abbrev reads : ℕ → Option Reading
  reads = in_block sizes fence block

  -- what the span answers and leaves, as the contract has it
  abbrev Told : List ℕ → Bool → Type 0
  Told next r =
      (r ≡ span_holds sizes fence block span.from span.to span.issued rows)
      × (r ≡ true → next ≡ span_marked sizes fence block span.from span.to span.issued span.value rows)

  told : (next : List ℕ) (r : Bool) → Spanned reads span.issued span.value span.from span.to rows next r → Told next r
  unfolding span_holds span_marked groups_hold groups_marked
  told next r spanned = spanned

  -- no group
  pub none_told : span.from ≡ span.to → Told rows true
  none_told none =
      told rows true
      (ends reads span.issued span.value (begin reads span.issued span.value span.from span.to rows (omega arith)) (omega arith))

  -- ---- damage

  module _ (more : span.from < span.to) (on : span.to ≤ groups_for span.issued) (room : span.issued ≤ length rows) where
    broken : reads span.from ≡ None → Told rows false
    broken e =
        let none = begin reads span.issued span.value span.from span.to rows (omega arith) in
        told rows false (breaks_at reads span.issued span.value none more (omega arith) room e)

    pub long_told : value_room sizes < value_length block → Told rows false
    unfolding read_group
    long_told h = broken (rw (← value_long sizes block span.from fence h) refl)

    pub misplaced_told : value_length block ≤ value_room sizes → value_length block ≤ fence.place → Told rows false
    unfolding read_group
    misplaced_told h k = broken (rw (← value_misplaced sizes block span.from fence h k) refl)

    pub updates_told : update_room sizes < update_length block → Told rows false
    unfolding read_group
    updates_told h = broken (rw (← update_long sizes block span.from h) (joined_broken (read_value sizes fence span.from block)))

  -- ---- the lists

  module _ (short : value_length block ≤ value_room sizes) (inside : fence.place < value_length block) (few : update_length block ≤ update_room sizes)
      (list update : List ℕ) (value_is : list ≡ value_list sizes block) (update-is : update ≡ update_list sizes block) where
    -- V from the fence's word on, and U
    abbrev walks : ℕ → Option Reading
    walks = in_lists sizes (take (length list - fence.place) (drop fence.place list)) update fence.first

    walked : (group : ℕ) → reads group ≡ walks group
    unfolding read_group
    walked group =
        rw (value_walked sizes block group fence short inside list value_is sizes.spacing refl, update_walked sizes block group few update update-is (update_room sizes) refl)
        refl

    agree : (group : ℕ) → span.from ≤ group → group < span.to → Agree (reads group) (walks group)
    agree group h k = agree_same (reads group) (walks group) (walked group)

    -- THEOREM: what the walks over the lists of a block leave is what the reads of the block leave
    pub lists_told : (next : List ℕ) (r : Bool) → Spanned walks span.issued span.value span.from span.to rows next r → Told next r
    lists_told next r spanned =
        told next r (
          spanned.0 ∙ sym (holds_agree reads walks span.from span.to span.issued agree rows),
          λ held. spanned.1 held ∙ sym (marked_agree reads walks span.from span.to span.issued agree span.value rows),
        )
