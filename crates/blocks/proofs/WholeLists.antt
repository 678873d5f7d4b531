-- What whole lists are: the parts of the check, the groups that both lists cover, and V xor U, which is canonical again. Assumes nothing.
use mathlib.Core.Path.{◌≡◌, refl, ◌∙◌, ap, ap₂, sym}
use mathlib.Core.Bool.{true, and-eq-true_iff}
use mathlib.Core.List.{List}
use Prim.Native.Nat.{ℕ, ◌<◌, ◌≤◌}
use native.Mathlib.Omega.{arith}
use lib.Dec.{leb}
use lib.ListN.{length}
use borrow.Author.Tests.{leb-true, le-leb}
use Rattle.groups.specs.Rows.{row_at, clear_from}
use Rattle.words.specs.Words.{decode, encode, canonical}
use Rattle.words.proofs.Canonical.{canonical_parts, parts_canonical}
use Rattle.words.proofs.Round.{Groups, decode-encode, encode_form}
use Rattle.words.proofs.Size.{encode-length}
use Rattle.groups.proofs.Tail.{clear_from-row_at, row_at-clear_from}
use Rattle.lists.specs.Combine.{exclusive, answer}
use Rattle.lists.specs.Inner.{Covers}
use Rattle.lists.proofs.Combining.{length-combined, combined-lt, row_at-combined_any}
use Rattle.lists.proofs.Covering.{canonical_covers}
use Rattle.lists.proofs.Operations.{exclusive_bits}
use Rattle.blocks.specs.Sizes.{value_room, update_room}
use Rattle.blocks.specs.Inner.{Limits}
use Rattle.blocks.specs.Block.{value_length, update_length, value_list, update_list, current}
use Rattle.blocks.specs.Whole.{update_ones, whole_lists}
use Rattle.blocks.specs.declared.sizes.Sizes.{Sizes}

-- ---- what the check says

pub record WholeParts (sizes : Sizes) (block : List ℕ) : Type 0 where
  pub value_short : value_length block ≤ value_room sizes
  pub update_short : update_length block ≤ update_room sizes
  pub value_canonical : canonical sizes.rows (value_list sizes block) ≡ true
  pub update_canonical : canonical sizes.rows (update_list sizes block) ≡ true
  pub few_ones : update_ones sizes block ≤ sizes.threshold

pub whole_parts : (sizes : Sizes) (block : List ℕ) → whole_lists sizes block ≡ true → WholeParts sizes block
unfolding whole_lists
whole_parts sizes block e =
    let s = (and-eq-true_iff _ (leb (update_ones sizes block) sizes.threshold)).0 e in
    let t = (and-eq-true_iff _ (canonical sizes.rows (update_list sizes block))).0 s.0 in
    let u = (and-eq-true_iff _ (canonical sizes.rows (value_list sizes block))).0 t.0 in
    let v = (and-eq-true_iff (leb (value_length block) (value_room sizes)) (leb (update_length block) (update_room sizes))).0 u.0 in
    record {
      value_short = leb-true (value_length block) (value_room sizes) v.0;
      update_short = leb-true (update_length block) (update_room sizes) v.1;
      value_canonical = u.1;
      update_canonical = t.1;
      few_ones = leb-true (update_ones sizes block) sizes.threshold s.1;
    }

pub parts_whole : (sizes : Sizes) (block : List ℕ) → WholeParts sizes block → whole_lists sizes block ≡ true
unfolding whole_lists
parts_whole sizes block p =
    rw (
      le-leb (value_length block) (value_room sizes) p.value_short,
      le-leb (update_length block) (update_room sizes) p.update_short,
      p.value_canonical,
      p.update_canonical,
      le-leb (update_ones sizes block) sizes.threshold p.few_ones,
    )
    refl

-- ---- what follows

-- a canonical list covers M groups
pub canonical-groups : (sizes : Sizes) → Limits sizes → (list : List ℕ) → canonical sizes.rows list ≡ true → Covers sizes.groups list
canonical-groups sizes limits list good = rw limits.groups_are (canonical_covers sizes.rows list good)

module _ (sizes : Sizes) (limits : Limits sizes) (block : List ℕ) (whole : whole_lists sizes block ≡ true) where
  parts : WholeParts sizes block
  parts = whole_parts sizes block whole

  pub value_covers : Covers sizes.groups (value_list sizes block)
  value_covers = canonical-groups sizes limits (value_list sizes block) parts.value_canonical

  pub update_covers : Covers sizes.groups (update_list sizes block)
  update_covers = canonical-groups sizes limits (update_list sizes block) parts.update_canonical

  same_long : length (decode (value_list sizes block)) ≡ length (decode (update_list sizes block))
  same_long = value_covers.long ∙ sym update_covers.long

  -- THEOREM: each row of V xor U is 1 where its rows in V and U differ
  pub row_at-current : (row : ℕ)
      → row_at (current sizes block) row ≡ answer exclusive (row_at (decode (value_list sizes block)) row) (row_at (decode (update_list sizes block)) row)
  unfolding current
  row_at-current row =
      row_at-combined_any exclusive exclusive_bits (decode (value_list sizes block)) (decode (update_list sizes block)) row same_long refl

  pub length-current : length (current sizes block) ≡ sizes.groups
  unfolding current
  length-current = length-combined exclusive (decode (value_list sizes block)) (decode (update_list sizes block)) same_long ∙ value_covers.long

  -- V xor U fits V's room
  pub current-fits : length (encode (current sizes block)) ≤ value_room sizes
  current-fits = omega (arith, encode-length (current sizes block), length-current, limits.value_room_is)

  pub current-lt : Groups (current sizes block)
  unfolding current
  current-lt = combined-lt exclusive exclusive_bits (decode (value_list sizes block)) (decode (update_list sizes block))

  few-groups : length (current sizes block) < 0x40000000
  few-groups = omega (arith, length-current)

  pub decode-current : decode (encode (current sizes block)) ≡ current sizes block
  decode-current = decode-encode (current sizes block) current-lt few-groups

  -- where V and U have no bit from a row on, V xor U has none
  pub clear_current : (limit : ℕ) → clear_from limit (decode (value_list sizes block)) ≡ true → clear_from limit (decode (update_list sizes block)) ≡ true
      → clear_from limit (current sizes block) ≡ true
  clear_current limit v u =
      row_at-clear_from limit (current sizes block)
      (λ row h. row_at-current row
      ∙ ap₂ (answer exclusive)
      (clear_from-row_at limit (decode (value_list sizes block)) v row h)
      (clear_from-row_at limit (decode (update_list sizes block)) u row h))

  -- THEOREM: V xor U is canonical
  pub canonical-current : canonical sizes.rows (encode (current sizes block)) ≡ true
  canonical-current =
      parts_canonical sizes.rows (encode (current sizes block))
      (record {
        form = encode_form (current sizes block) current-lt few-groups;
        long = ap length decode-current ∙ length-current ∙ limits.groups_are;
        clear = rw decode-current
            (clear_current sizes.rows
            (canonical_parts sizes.rows (value_list sizes block) parts.value_canonical).clear
            (canonical_parts sizes.rows (update_list sizes block) parts.update_canonical).clear);
      })
