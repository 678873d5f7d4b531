-- The tests of what is lent, of a value's lists and of its fences say just what document 01's sentence says of them. Assumes nothing.
use mathlib.Core.Path.{◌≡◌, refl, ◌∙◌, ap, ap₂, sym}
use mathlib.Core.Bool.{true, not, and-eq-true_iff}
use mathlib.Core.List.{List, []}
use Prim.Native.Nat.{ℕ, ◌+◌, ◌*◌, ◌-◌, ◌<◌, ◌≤◌}
use native.Mathlib.Nat.{zero-add}
use native.Mathlib.Omega.{arith}
use lib.Dec.{eqb}
use lib.ListN.{length, get_or, drop}
use lib.Seq.{get_or-drop}
use borrow.Author.Tests.{eqb-true, eq-eqb}
use Rattle.groups.specs.Rows.{all_zero}
use Rattle.groups.proofs.Tail.{all_zero-get_or, get_or-all_zero, clear_from-row_at, row_at-clear_from}
use Rattle.words.specs.Words.{decode}
use Rattle.blocks.specs.Audit.{sound_lists}
use Rattle.blocks.specs.Block.{value_length, update_length, value_words, update_words, value_list, update_list}
use Rattle.blocks.specs.Sizes.{fence_count}
use Rattle.blocks.specs.declared.sizes.Sizes.{Sizes}
use Rattle.blocks.proofs.Parts.{length_part}
use Rattle.blocks.proofs.WholeLists.{whole_parts}
use Rattle.block_read.specs.Fences.{fence_of, fence_at}
use Rattle.block_read.specs.declared.fence.Fence.{Fence}
use Rattle.memory.specs.Fences.{no_fence, is_fence, right_fences}
use Rattle.memory.specs.Inner.{Planned}
use Rattle.memory.specs.Memory.{Memory, within_limits, sizes_of, lent, block_at, list_at, fences_at, sound_value}
use Rattle.memory.specs.declared.header.Header.{Header}
use Rattle.memory.proofs.Deciding.{passes_enters}
use Rattle.memory.proofs.FenceRecords.{each_right, all_right}
use Rattle.audit_value.proofs.SoundLists.{sound_parts, parts_sound}
use Rattle.index.specs.Soundness.{SoundLists, FencesRight}
use Rattle.history.proofs.Changes.{get_or-fences_at}
use Rattle.history.proofs.SoundBlocks.{lists-whole}

-- ---- what is lent

-- the test of what is lent to a header within its limits
pub lent_planned : (header : Header) (words fences : ℕ) → within_limits header ≡ true → lent header words fences ≡ true
    → Planned header (sizes_of header) words fences
lent_planned header words fences holds lends = (passes_enters words fences header [] (ap not holds, (ap not lends, tt))).planned

-- ---- the lists of a block

-- the words from a place on are all zero, one by one and back
zero-from : (count : ℕ) (words : List ℕ) → all_zero (drop count words) ≡ true → (place : ℕ) → count ≤ place → get_or words place 0 ≡ 0
zero-from count words e place h =
    let there : count + (place - count) ≡ place = omega arith in
    rw there at (sym (get_or-drop count words (place - count) 0)) ∙ all_zero-get_or (drop count words) e (place - count)

from_zero : (count : ℕ) (words : List ℕ) → ((place : ℕ) → count ≤ place → get_or words place 0 ≡ 0) → all_zero (drop count words) ≡ true
from_zero count words h = get_or-all_zero (drop count words) (λ i. get_or-drop count words i 0 ∙ h (count + i) (omega arith))

module _ (sizes : Sizes) (issued : ℕ) (block : List ℕ) where
  -- the test of a block, and the sentence
  block_says : sound_lists sizes issued block ≡ true → SoundLists sizes issued block
  block_says e =
      let parts = sound_parts sizes issued block e in
      let whole = whole_parts sizes block parts.whole in
      record {
        value = record {
          fits = whole.value_short;
          form = whole.value_canonical;
          clear = clear_from-row_at issued (decode (value_list sizes block)) parts.value_clear;
          unused = zero-from (value_length block) (value_words sizes block) parts.value_unused;
        };
        update = record {
          fits = whole.update_short;
          form = whole.update_canonical;
          clear = clear_from-row_at issued (decode (update_list sizes block)) parts.update_clear;
          unused = zero-from (update_length block) (update_words sizes block) parts.update_unused;
        };
        few_ones = whole.few_ones;
      }

  says_block : SoundLists sizes issued block → sound_lists sizes issued block ≡ true
  says_block s =
      parts_sound sizes issued block
      (record {
        whole = lists-whole s;
        value_clear = row_at-clear_from issued (decode (value_list sizes block)) s.value.clear;
        update_clear = row_at-clear_from issued (decode (update_list sizes block)) s.update.clear;
        value_unused = from_zero (value_length block) (value_words sizes block) s.value.unused;
        update_unused = from_zero (update_length block) (update_words sizes block) s.update.unused;
      })

-- ---- fences

module _ (right lent : Fence) where
  -- the test of one fence, and back
  fence_says : is_fence right lent ≡ true → lent ≡ right
  fence_says e =
      let both = (and-eq-true_iff (eqb right.place lent.place) (eqb right.first lent.first)).0 e in
      ap₂ fence_of (sym (eqb-true right.place lent.place both.0)) (sym (eqb-true right.first lent.first both.1))

  says_fence : lent ≡ right → is_fence right lent ≡ true
  says_fence e = rw (e, eq-eqb right.place right.place refl, eq-eqb right.first right.first refl) refl

module _ (sizes : Sizes) (memory : Memory) (value : ℕ) (room : value * fence_count sizes + fence_count sizes ≤ length memory.fences) where
  abbrev list : List ℕ
  list = list_at sizes memory.words value

  -- the value's fences as lent
  abbrev records : List Fence
  records = fences_at sizes memory.fences value

  length-records : length records ≡ fence_count sizes
  unfolding fences_at
  length-records = length_part memory.fences (value * fence_count sizes) (fence_count sizes) room

  -- the test of a value's fences, and the sentence
  fences_say : right_fences sizes list 0 records ≡ true → FencesRight sizes memory value
  fences_say e j h =
      sym (get_or-fences_at sizes memory.fences value j h)
      ∙ fence_says (fence_at sizes list j) (get_or records j no_fence) (rw zero-add at (each_right sizes list 0 records e j (rw length-records h)))

  say_fences : FencesRight sizes memory value → right_fences sizes list 0 records ≡ true
  say_fences right =
      all_right sizes list 0 records
      (λ j h.
      let l : j < fence_count sizes = rw length-records at h in
      rw zero-add (says_fence (fence_at sizes list j) (get_or records j no_fence) (get_or-fences_at sizes memory.fences value j l ∙ right j l)))

-- ---- a value

module _ (header : Header) (memory : Memory) (value : ℕ)
    (room : value * fence_count (sizes_of header) + fence_count (sizes_of header) ≤ length memory.fences) where
  abbrev sizes : Sizes
  sizes = sizes_of header

  -- THEOREM: the test of a value, and the sentence
  pub value_says : sound_value header memory value ≡ true
      → SoundLists (sizes_of header) header.issued (block_at (sizes_of header) memory.words value) × FencesRight (sizes_of header) memory value
  unfolding sound_value
  value_says e =
      let block = block_at sizes memory.words value in
      let right = right_fences sizes (list_at sizes memory.words value) 0 (fences_at sizes memory.fences value) in
      let both = (and-eq-true_iff (sound_lists sizes header.issued block) right).0 e in
      (block_says sizes header.issued block both.0, fences_say sizes memory value room both.1)

  pub says_value : SoundLists (sizes_of header) header.issued (block_at (sizes_of header) memory.words value) → FencesRight (sizes_of header) memory value
      → sound_value header memory value ≡ true
  unfolding sound_value
  says_value lists right =
      rw (says_block sizes header.issued (block_at sizes memory.words value) lists, say_fences sizes memory value room right) refl
