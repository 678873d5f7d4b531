-- A flip on a sound index: the value's lists and fences are sound, its row is turned over, and every other value is as it was. The index is sound
-- again where no other value has the row. Assumes nothing.
use mathlib.Core.Path.{◌≡◌, refl, ◌∙◌, ap, sym}
use mathlib.Core.Bool.{true, false, cond}
use mathlib.Core.List.{List}
use Prim.Native.Nat.{ℕ, ◌+◌, ◌-◌, ◌<◌, ◌≤◌}
use native.Mathlib.Omega.{arith}
use lib.Dec.{eqb}
use lib.ListN.{length}
use borrow.Author.Tests.{eqb-true, eqb-false, eq-eqb, ne_eqb}
use Rattle.groups.specs.Rows.{row_at}
use Rattle.blocks.specs.Block.{current}
use Rattle.blocks.specs.Inner.{Limits}
use Rattle.blocks.specs.Sizes.{block_size}
use Rattle.blocks.specs.Whole.{whole_lists}
use Rattle.blocks.specs.declared.sizes.Sizes.{Sizes}
use Rattle.block_read.specs.Fences.{fence_at}
use Rattle.block_change.specs.Change.{merge_due, flipped}
use Rattle.block_change.proofs.Flipping.{row_at-flipped, row_at-flipped_other, value_kept}
use Rattle.memory.specs.Entry.{grown}
use Rattle.memory.specs.Inner.{Fenced}
use Rattle.memory.specs.Memory.{Memory, memory_of, sizes_of, block_at, list_at, rows_in}
use Rattle.memory.specs.declared.header.Header.{Header}
use Rattle.memory.proofs.Headers.{within}
use Rattle.memory.proofs.Places.{length-block_at}
use Rattle.change_value.specs.Change.{merges_in, flipped_words, flipped_in}
use Rattle.change_value.proofs.Changing.{Puts, flipped_puts}
use Rattle.index.specs.Soundness.{FencesRight, NoRowInTwo, Sound}
use Rattle.index.proofs.Holders.{NoHolder}
use Rattle.history.proofs.Changes.{Replaced, replaced}
use Rattle.history.proofs.Sound.{sound_fenced, sound_whole, sound_clear}
use Rattle.history.proofs.SoundAfter.{issuing, sound_after}
use Rattle.history.proofs.SoundBlocks.{lists-whole, flipped_sound}
use Rattle.history.proofs.Tests.{either, of_each}

module _ (header : Header) (memory : Memory) (s : Sound header memory) (value : ℕ) (h : value < header.values) where
  abbrev sizes : Sizes
  sizes = sizes_of header

  abbrev block : List ℕ
  block = block_at sizes memory.words value

  place : Fenced sizes (length memory.words) (length memory.fences) value
  place = sound_fenced header memory s value h

  limits : Limits sizes
  limits = place.limits

  long : length block ≡ block_size sizes
  long = length-block_at sizes memory.words value place.inside

  are : whole_lists sizes block ≡ true
  are = lists-whole (s.lists value h)

  module _ (row : ℕ) (inside : row < header.rows) where
    abbrev after : Memory
    after = flipped_in sizes memory value row

    abbrev new : List ℕ
    new = flipped sizes row block

    puts : Puts sizes memory.words value new (flipped_words sizes memory.words value row)
    puts = flipped_puts sizes limits memory.words value place.inside (sound_whole header memory s value h) row inside

    -- where no merge is due, V and so its fences stay
    kept_right : merge_due sizes row block ≡ false → FencesRight sizes (memory_of (flipped_words sizes memory.words value row) memory.fences) value
    kept_right none j l =
        let stays : list_at sizes (flipped_words sizes memory.words value row) value ≡ list_at sizes memory.words value =
        rw puts.own (value_kept sizes limits row inside block long are none).lists in
        s.fences value h j l ∙ ap (λ (list : List ℕ). fence_at sizes list j) (sym stays)

    -- the value has the flipped block, with right fences
    pub flip_replaces : Replaced sizes value memory after new
    unfolding flipped_in merges_in
    flip_replaces =
        either (merge_due sizes row block)
        (λ due. rw due (replaced sizes memory value place.room puts))
        (λ none. rw none (record { words = puts; long_fences = refl; right = kept_right none; others = λ other differ. refl }))

    -- every other value has the rows that it had
    flip_others : (other : ℕ) → (value ≡ other → ⊥) → rows_in sizes after.words other ≡ rows_in sizes memory.words other
    unfolding rows_in
    flip_others other differ = ap (current sizes) (flip_replaces.words.others other differ)

    -- THEOREM: the row's bit is turned over, and no other
    flip_bit : row_at (rows_in sizes after.words value) row ≡ 1 - row_at (rows_in sizes memory.words value) row
    unfolding rows_in
    flip_bit = rw flip_replaces.words.own (row_at-flipped sizes limits row inside block long are)

    pub flip_bit_other : (other : ℕ) → (other ≡ row → ⊥) → (each : ℕ)
        → row_at (rows_in sizes after.words each) other ≡ row_at (rows_in sizes memory.words each) other
    unfolding rows_in
    flip_bit_other other differ =
        of_each value
        (λ each. row_at (current sizes (block_at sizes after.words each)) other ≡ row_at (current sizes (block_at sizes memory.words each)) other)
        (rw flip_replaces.words.own (row_at-flipped_other sizes limits row inside block long are other differ))
        (λ each apart. rw (flip_replaces.words.others each apart) refl)

    -- THEOREM: a row that no value has is then in this one alone
    pub flip_lone : NoHolder header memory.words row header.values
        → (each : ℕ) → each < header.values → row_at (rows_in sizes after.words each) row ≡ cond (eqb value each) 1 0
    flip_lone none =
        of_each value (λ each. each < header.values → row_at (rows_in sizes after.words each) row ≡ cond (eqb value each) 1 0)
        (λ l. rw (eq-eqb value value refl) (omega (arith, flip_bit, none value h)))
        (λ each differ l. rw (ne_eqb value each differ, flip_others each differ) (none each l))

    -- ---- where no other value has the row

    module _ (alone : (other : ℕ) → other < header.values → (value ≡ other → ⊥) → row_at (rows_in sizes memory.words other) row ≡ 0) where
      -- then no other value has it
      still_alone : (other : ℕ) → other < header.values → (value ≡ other → ⊥) → row_at (rows_in sizes after.words other) row ≡ 0
      still_alone other l differ = rw (flip_others other differ) (alone other l differ)

      flip_apart : NoRowInTwo header after
      flip_apart there one other l m differ has also =
          either (eqb there row)
          (λ same.
          let here : there ≡ row = eqb-true there row same in
          either (eqb value one)
          (λ first. omega (arith, still_alone other m (λ e. differ (sym (eqb-true value one first) ∙ e)), rw here at also))
          (λ second. omega (arith, still_alone one l (eqb-false value one second), rw here at has)))
          (λ elsewhere.
          let differs = eqb-false there row elsewhere in
          s.apart there one other l m differ
          (sym (flip_bit_other there differs one) ∙ has) (sym (flip_bit_other there differs other) ∙ also))

      -- the index is sound again, with so many rows issued that the row is one of them
      flip_sound : (issued : ℕ) → header.issued ≤ issued → row < issued → issued ≤ header.rows → Sound (issuing header issued) after
      flip_sound issued more below few =
          sound_after header memory after value new s flip_replaces issued more few
          (flipped_sound sizes limits header.issued issued row more below few block long (s.lists value h)) flip_apart

  -- ---- the flips of the calls

  -- THEOREM: Insert: row n, which no value has, is flipped and issued
  pub insert_sound : header.issued < header.rows → Sound (grown header) (flipped_in sizes memory value header.issued)
  insert_sound room =
      flip_sound header.issued room (λ other l differ. sound_clear header memory s other l header.issued (omega arith))
      (header.issued + 1) (omega arith) (omega arith) (omega arith)

  module _ (row : ℕ) (below : row < header.issued) where
    within_rows : row < header.rows
    within_rows = omega (arith, (within header s.within).few_issued)

    -- THEOREM: a row that the value has is flipped: no value has it then
    module _ (has : row_at (rows_in sizes memory.words value) row ≡ 1) where
      others_clear : (other : ℕ) → other < header.values → (value ≡ other → ⊥) → row_at (rows_in sizes memory.words other) row ≡ 0
      others_clear other l differ =
          let clash : row_at (rows_in sizes memory.words other) row ≡ 1 → ⊥ = s.apart row value other h l differ has in
          omega arith

      pub remove_sound : Sound header (flipped_in sizes memory value row)
      remove_sound = flip_sound row within_rows others_clear header.issued (omega arith) below (within header s.within).few_issued

      pub remove_clears : NoHolder header (flipped_in sizes memory value row).words row header.values
      remove_clears =
          of_each value (λ each. each < header.values → row_at (rows_in sizes (flipped_in sizes memory value row).words each) row ≡ 0)
          (λ l. omega (arith, flip_bit row within_rows))
          (λ other differ l. still_alone row within_rows others_clear other l differ)

    -- THEOREM: a row that no value has is flipped
    module _ (none : NoHolder header memory.words row header.values) where
      pub add_sound : Sound header (flipped_in sizes memory value row)
      add_sound = flip_sound row within_rows (λ other l differ. none other l) header.issued (omega arith) below (within header s.within).few_issued
