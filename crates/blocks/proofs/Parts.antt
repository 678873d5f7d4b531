-- Laws of a part of a list, and of other items written in its place. Assumes nothing.
use mathlib.Core.Path.{◌≡◌, refl, ◌∙◌, ap, sym}
use mathlib.Core.Logic.{◌⊎◌, ⊎_elim}
use mathlib.Core.List.{List, [], ◌∷◌, ◌++◌, append_assoc}
use Prim.Native.Nat.{ℕ, zero, suc, ◌+◌, ◌-◌, ◌<◌, ◌≤◌}
use native.Mathlib.Nat.{add_assoc, sub-zero, zero-sub, suc-sub-suc}
use native.Mathlib.Numerals.{add-one}
use native.Mathlib.Omega.{arith}
use lib.ListN.{length, get_or, set, take, drop, length-append, length-drop}
use lib.Seq.{length-take-le, take-nil, take_at, drop_at, get_or-take, get_or-drop}
use lib.Seq.{take-take, drop-drop, set_split}
use borrow.Rule.Slice.PartMut.{put_same}
use Rattle.groups.proofs.Sets.{drop_further}
use Rattle.blocks.specs.Sizes.{value_room, update_room}
use Rattle.blocks.specs.Block.{part, write, value_length, update_length, value_words, update_words, value_list, update_list}
use Rattle.blocks.specs.declared.sizes.Sizes.{Sizes}

-- ---- parts

-- the last of the first words are the first of the last
pub drop-take : {A : Type 0} (from count : ℕ) (words : List A) → drop from (take count words) ≡ take (count - from) (drop from words)
drop-take zero count words = rw sub-zero refl
drop-take (suc from) zero words = rw zero-sub refl
drop-take (suc from) (suc count) [] = rw take-nil refl
drop-take (suc from) (suc count) (word ∷ words) = rw (suc-sub-suc, drop-take from count words) refl

-- a part is what a slice from one place up to another holds
pub part_slice : {A : Type 0} (words : List A) (at count from to : ℕ) → from ≡ at → to - from ≡ count → take (to - from) (drop from words) ≡ part words at count
unfolding part
part_slice words at count from to e f = rw (f, e) refl

module _ {A : Type 0} (words : List A) (at : ℕ) where
  pub length_part : (count : ℕ) → at + count ≤ length words → length (part words at count) ≡ count
  unfolding part
  length_part count h = length-take-le count (drop at words) (omega (arith, length-drop at words))

  pub get_d_part : (count i : ℕ) (none : A) → i < count → get_or (part words at count) i none ≡ get_or words (at + i) none
  unfolding part
  get_d_part count i none h = rw (get_or-take, get_or-drop) refl

  pub take_part : (size count : ℕ) → count ≤ size → take count (part words at size) ≡ part words at count
  unfolding part
  take_part size count h = take-take count size (drop at words) h

  pub drop-part : (size from : ℕ) → drop from (part words at size) ≡ part words (at + from) (size - from)
  unfolding part
  drop-part size from = rw (drop-take, drop-drop) refl

  -- a part of a part
  pub part-part : (size from count : ℕ) → from + count ≤ size → part (part words at size) from count ≡ part words (at + from) count
  unfolding part
  part-part size from count h = rw (drop-take, drop-drop) (take-take count (size - from) (drop (at + from) words) (omega arith))

-- ---- other words from a place on

-- a part that is lent and comes back with as many other words
pub write-lent : {A : Type 0} (words : List A) (at count : ℕ) (new : List A) → length new ≡ count
    → take at words ++ (new ++ drop count (drop at words)) ≡ write words at new
unfolding write
write-lent words at count new e = rw (e, drop-drop) refl

-- two places with so many words each have no word in common
abbrev pub Apart : ℕ → ℕ → ℕ → ℕ → Type 0
Apart at count other more = (at + count ≤ other) ⊎ (other + more ≤ at)

module _ {A : Type 0} (words : List A) (at : ℕ) (new : List A) (fits : at + length new ≤ length words) where
  before : length (take at words) ≡ at
  before = length-take-le at words (omega arith)

  pub take-write : take at (write words at new) ≡ take at words
  unfolding write
  take-write = take_at (take at words) (new ++ drop (at + length new) words) at before

  -- what was written, with all that lies behind
  pub drop-write : drop at (write words at new) ≡ new ++ drop (at + length new) words
  unfolding write
  drop-write = drop_at (take at words) (new ++ drop (at + length new) words) at before

  pub drop-behind : drop (at + length new) (write words at new) ≡ drop (at + length new) words
  drop-behind = sym (drop-drop (length new) at (write words at new)) ∙ rw drop-write (drop_at new (drop (at + length new) words) (length new) refl)

  pub length-write : length (write words at new) ≡ length words
  unfolding write
  length-write =
      let behind = drop (at + length new) words in
      omega (arith, before, length-append (take at words) (new ++ behind), length-append new behind, length-drop (at + length new) words)

  -- THEOREM: what was written is read back
  pub part-write : part (write words at new) at (length new) ≡ new
  unfolding part
  part-write = rw drop-write (take_at new (drop (at + length new) words) (length new) refl)

  part-behind : (other count : ℕ) → at + length new ≤ other → part (write words at new) other count ≡ part words other count
  unfolding part
  part-behind other count h =
      let past : other ≡ at + length new + (other - (at + length new)) = omega arith in
      rw past (ap (take count) (drop_further (write words at new) words (at + length new) (other - (at + length new)) drop-behind))

  part-before : (other count : ℕ) → other + count ≤ at → part (write words at new) other count ≡ part words other count
  unfolding part
  part-before other count h =
      let front = take-take (other + count) at in
      let same = sym (front (write words at new) h) ∙ ap (take (other + count)) take-write ∙ front words h in
      let many : other + count - other ≡ count = omega arith in
      rw many at (rw (drop-take, drop-take) at (ap (drop other) same))

  -- THEOREM: a part that lies apart from what was written is unchanged
  pub part_apart : (other count : ℕ) → Apart at (length new) other count → part (write words at new) other count ≡ part words other count
  part_apart other count apart = ⊎_elim (part-behind other count) (part-before other count) apart

-- what stands there already
pub write-part : {A : Type 0} (words : List A) (at count : ℕ) → at + count ≤ length words → write words at (part words at count) ≡ words
unfolding part
write-part words at count h = sym (write-lent words at count (part words at count) (length_part words at count h)) ∙ put_same at count words

-- ---- stores

pub write-set : {A : Type 0} (words : List A) (at : ℕ) (word : A) → at < length words → set words at word ≡ write words at (word ∷ [])
unfolding write
write-set words at word h = rw (set_split words at word h, add-one) refl

-- one store more behind what was written
pub write-more : {A : Type 0} (words : List A) (at : ℕ) (new : List A) (word : A) → at + length new < length words
    → set (write words at new) (at + length new) word ≡ write words at (new ++ word ∷ [])
unfolding write
write-more words at new word h =
    let fits : at + length new ≤ length words = omega arith in
    let end = at + length new in
    let front = take at words ++ new in
    let long : length front ≡ end = length-append (take at words) new ∙ rw (length-take-le at words (omega arith)) refl in
    let upto : take end (write words at new) ≡ front = ap (take end) (sym (append_assoc (take at words) new _)) ∙ take_at front _ end long in
    let behind : drop (end + 1) (write words at new) ≡ drop (end + 1) words = drop_further (write words at new) words end 1 (drop-behind words at new fits) in
    write-set (write words at new) end word (rw (length-write words at new fits) h)
    ∙ rw (upto, behind, length-append new (word ∷ []), add_assoc at (length new) 1) (simp append_assoc)

-- ---- the parts of a block, as slices

module _ (sizes : Sizes) (block : List ℕ) where
  -- the front of V's room, V, and what it leaves unused
  pub value-front_slice : (count from to : ℕ) → from ≡ 2 → to ≡ 2 + count → count ≤ value_room sizes
      → take (to - from) (drop from block) ≡ take count (value_words sizes block)
  unfolding value_words
  value-front_slice count from to e f h = part_slice block 2 count from to e (omega arith) ∙ sym (take_part block 2 (value_room sizes) count h)

  pub value_slice : (from to : ℕ) → from ≡ 2 → to ≡ 2 + value_length block → value_length block ≤ value_room sizes
      → take (to - from) (drop from block) ≡ value_list sizes block
  unfolding value_list value_words
  value_slice from to e f h = value-front_slice (value_length block) from to e f h

  pub value_unused_slice : (from to : ℕ) → from ≡ 2 + value_length block → to ≡ 2 + value_room sizes
      → take (to - from) (drop from block) ≡ drop (value_length block) (value_words sizes block)
  unfolding value_words
  value_unused_slice from to e f =
      part_slice block (2 + value_length block) (value_room sizes - value_length block) from to e (omega arith)
      ∙ sym (drop-part block 2 (value_room sizes) (value_length block))

  -- U, and what it leaves unused
  pub update_slice : (from to : ℕ) → from ≡ 2 + value_room sizes → to ≡ from + update_length block → update_length block ≤ update_room sizes
      → take (to - from) (drop from block) ≡ update_list sizes block
  unfolding update_list update_words
  update_slice from to e f h =
      part_slice block (2 + value_room sizes) (update_length block) from to e (omega arith)
      ∙ sym (take_part block (2 + value_room sizes) (update_room sizes) (update_length block) h)

  pub update_unused_slice : (from to : ℕ) → from ≡ 2 + value_room sizes + update_length block → to ≡ 2 + value_room sizes + update_room sizes
      → take (to - from) (drop from block) ≡ drop (update_length block) (update_words sizes block)
  unfolding update_words
  update_unused_slice from to e f =
      part_slice block (2 + value_room sizes + update_length block) (update_room sizes - update_length block) from to e (omega arith)
      ∙ sym (drop-part block (2 + value_room sizes) (update_room sizes) (update_length block))
