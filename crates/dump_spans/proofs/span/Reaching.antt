-- The words of V and of U that cover a group say what the groups behind it have, as far as both cover them. Assumes nothing.
use Rattle.std.specs.Prelude.{Some, None}
use mathlib.Core.Path.{◌≡◌, refl, ◌∙◌, ap, sym}
use mathlib.Core.Bool.{Bool}
use mathlib.Core.List.{List, [], ◌∷◌}
use Prim.Native.Nat.{ℕ, ◌+◌, ◌-◌, ◌<◌, ◌≤◌}
use native.Mathlib.Omega.{arith}
use lib.Bits.{bit_xor}
use Rattle.words.specs.Words.{run_of, group_in}
use Rattle.lists.specs.Combine.{exclusive}
use Rattle.list_walk.specs.Walk.{walk_to}
use Rattle.list_walk.specs.declared.walk.Covering.{Covering}
use Rattle.lists.proofs.Covering.{word_small}
use Rattle.list_walk.proofs.Onward.{on_same}
use Rattle.lists.proofs.Operations.{exclusive_bits, xor-on_group, on_group-lt}
use Rattle.blocks.specs.Sizes.{update_room}
use Rattle.blocks.specs.declared.sizes.Sizes.{Sizes}
use Rattle.dump_spans.specs.Inner.{in_lists}
use Rattle.dump_marks.specs.Inner.{alike}
use Rattle.dump_marks.proofs.marking.Spans.{Agree, agree_bits, holds_agree, marked_agree}
use Rattle.dump_spans.proofs.span.Spanning.{Spanned}
use Rattle.block_read.proofs.Readings.{read_as}

-- the bits of the groups that two words cover
abbrev pub bits_of_both : Covering → Covering → ℕ
bits_of_both v u = bit_xor (group_in (run_of v.word)) (group_in (run_of u.word))

small : (word : ℕ) → group_in (run_of word) < 0x80000000
small word = word_small (word ∷ []) 0

pub bits_small : (v u : Covering) → bits_of_both v u < 0x80000000
bits_small v u =
    let x = group_in (run_of v.word) in
    let y = group_in (run_of u.word) in
    omega (arith, xor-on_group x y (small v.word) (small u.word), on_group-lt exclusive exclusive_bits x y)

module _ (sizes : Sizes) (list update : List ℕ) (first : ℕ) where
  -- ---- damage

  pub value_broken : (group : ℕ) → walk_to list first group sizes.spacing ≡ None → in_lists sizes list update first group ≡ None
  value_broken group e = rw e refl

  pub update_broken : (group : ℕ) (v : Covering) → walk_to list first group sizes.spacing ≡ Some v → walk_to update 0 group (update_room sizes) ≡ None
      → in_lists sizes list update first group ≡ None
  update_broken group v e d = rw (e, d) refl

  -- ---- both words are found

  -- the words that cover a group before `to`
  pub record Reached (to group : ℕ) (v u : Covering) : Type 0 where
    pub more : group < to
    pub value_found : walk_to list first group sizes.spacing ≡ Some v
    pub update_found : walk_to update 0 group (update_room sizes) ≡ Some u

  module _ {to group : ℕ} {v u : Covering} (r : Reached to group v u) where
    same_bits : (k : ℕ) → k ≤ v.beyond → k ≤ u.beyond → in_lists sizes list update first (group + k) ≡ read_as (bits_of_both v u) (v.opened + u.opened)
    same_bits k p q =
        rw (
          on_same list first group sizes.spacing v r.value_found k p,
          on_same update 0 group (update_room sizes) u r.update_found k q,
          xor-on_group (group_in (run_of v.word)) (group_in (run_of u.word)) (small v.word) (small u.word),
        )
        refl

    module _ (end : ℕ) (p : end - group ≤ v.beyond + 1) (q : end - group ≤ u.beyond + 1) where
      agrees : (g : ℕ) → group ≤ g → g < end → Agree (in_lists sizes list update first g) (alike (bits_of_both v u) g)
      agrees g h k =
          let there : g ≡ group + (g - group) = omega arith in
          agree_bits (in_lists sizes list update first g) (bits_of_both v u) (v.opened + u.opened) 0
          (ap (in_lists sizes list update first) there ∙ same_bits (g - group) (omega arith) (omega arith))

      -- THEOREM: the groups up to `end` are read where those bits are marked
      pub read_alike : (issued value : ℕ) (rows next : List ℕ) (told : Bool) → Spanned (alike (bits_of_both v u)) issued value group end rows next told
          → Spanned (in_lists sizes list update first) issued value group end rows next told
      read_alike issued value rows next told one = (
        one.0 ∙ sym (holds_agree (in_lists sizes list update first) (alike (bits_of_both v u)) group end issued agrees rows),
        λ yes. one.1 yes ∙ sym (marked_agree (in_lists sizes list update first) (alike (bits_of_both v u)) group end issued agrees value rows),
      )
