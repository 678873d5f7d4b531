-- Blocks whose lists are sound: they are whole, and a merge, a flip and a load leave such blocks. Assumes nothing.
use mathlib.Core.Path.{◌≡◌, ◌∙◌, ap₂}
use mathlib.Core.Bool.{true}
use mathlib.Core.List.{List}
use Prim.Native.Nat.{ℕ, ◌<◌, ◌≤◌}
use native.Mathlib.Omega.{arith}
use lib.ListN.{length, get_or, get_or-eq_default}
use Rattle.groups.specs.Rows.{row_at}
use Rattle.groups.proofs.Groups.{row_at-zeros}
use Rattle.words.specs.Words.{decode, encode, canonical}
use Rattle.lists.specs.Combine.{exclusive, answer}
use Rattle.lists.proofs.TurningOver.{row_at-turned_over_other}
use Rattle.blocks.specs.Inner.{Limits}
use Rattle.blocks.specs.Sizes.{value_room, update_room, block_size}
use Rattle.blocks.specs.Block.{update_list, current, padded, zero_list}
use Rattle.blocks.specs.Whole.{whole_lists}
use Rattle.blocks.specs.declared.sizes.Sizes.{Sizes}
use Rattle.blocks.proofs.EmptyUpdates.{emptied, value-emptied, update-emptied, decode-update-emptied, whole-emptied}
use Rattle.blocks.proofs.WholeLists.{whole_parts, parts_whole, row_at-current, current-fits, decode-current, canonical-current}
use Rattle.load_list.proofs.listing.Rows.{get_or-padded}
use Rattle.block_change.specs.Change.{merged, turned, merge_due, flipped}
use Rattle.block_change.proofs.Flipping.{before, ready}
use Rattle.block_change.proofs.Turning.{Spare, turned_list-fits, value-turned, update-turned, decode-turned, whole-turned}
use Rattle.index.specs.Soundness.{SoundLists}
use Rattle.history.proofs.Tests.{either}

-- the lists are whole
pub lists-whole : {sizes : Sizes} {issued : ℕ} {block : List ℕ} → SoundLists sizes issued block → whole_lists sizes block ≡ true
lists-whole {sizes} {issued} {block} s =
    parts_whole sizes block
    (record {
      value_short = s.value.fits;
      update_short = s.update.fits;
      value_canonical = s.value.form;
      update_canonical = s.update.form;
      few_ones = s.few_ones;
    })

-- with no bit at a row or above, there is none at a later one
pub lists_later : {sizes : Sizes} {issued : ℕ} {block : List ℕ} (later : ℕ) → issued ≤ later → SoundLists sizes issued block → SoundLists sizes later block
lists_later later more s =
    record {
      value = record {
        fits = s.value.fits;
        form = s.value.form;
        clear = λ row h. s.value.clear row (omega arith);
        unused = s.value.unused;
      };
      update = record {
        fits = s.update.fits;
        form = s.update.form;
        clear = λ row h. s.update.clear row (omega arith);
        unused = s.update.unused;
      };
      few_ones = s.few_ones;
    }

-- the words behind a list in its room are zero
unused_zero_lem : (room : ℕ) (list : List ℕ) (place : ℕ) → length list ≤ place → get_or (padded room list) place 0 ≡ 0
unused_zero_lem room list place h = get_or-padded room list place ∙ get_or-eq_default list 0 h

-- where V and U have no bit at a row, V xor U has none
pub current_clear : {sizes : Sizes} {issued : ℕ} {block : List ℕ} → Limits sizes → SoundLists sizes issued block
    → (row : ℕ) → issued ≤ row → row_at (current sizes block) row ≡ 0
current_clear {sizes} {issued} {block} limits s row h =
    row_at-current sizes limits block (lists-whole s) row ∙ ap₂ (answer exclusive) (s.value.clear row h) (s.update.clear row h)

module _ (sizes : Sizes) (limits : Limits sizes) (issued : ℕ) where
  -- ---- a list with empty updates

  -- THEOREM: a canonical list with no bit at row n or above makes a sound block
  pub emptied_sound : (list : List ℕ) → length list ≤ value_room sizes → canonical sizes.rows list ≡ true
      → ((row : ℕ) → issued ≤ row → row_at (decode list) row ≡ 0) → SoundLists sizes issued (emptied sizes list)
  emptied_sound list few good clear =
      let value = value-emptied sizes limits list few in
      let update = update-emptied sizes limits list few in
      let parts = whole_parts sizes (emptied sizes list) (whole-emptied sizes limits list few good) in
      record {
        value = record {
          fits = parts.value_short;
          form = parts.value_canonical;
          clear = rw value.lists clear;
          unused = rw (value.counts, value.fills) (unused_zero_lem (value_room sizes) list);
        };
        update = record {
          fits = parts.update_short;
          form = parts.update_canonical;
          clear = λ row h. rw (decode-update-emptied sizes limits list few) (row_at-zeros sizes.groups row);
          unused = rw (update.counts, update.fills) (unused_zero_lem (update_room sizes) (zero_list sizes));
        };
        few_ones = parts.few_ones;
      }

  -- THEOREM: a merge leaves sound lists
  pub merged_sound : (block : List ℕ) → SoundLists sizes issued block → SoundLists sizes issued (merged sizes block)
  unfolding merged
  merged_sound block s =
      let whole = lists-whole s in
      emptied_sound (encode (current sizes block)) (current-fits sizes limits block whole) (canonical-current sizes limits block whole)
      (rw (decode-current sizes limits block whole) (current_clear limits s))

  -- ---- a row turned over, with no bit at `limit` or above then

  module _ (limit row : ℕ) (more : issued ≤ limit) (below : row < limit) (inside : limit ≤ sizes.rows) where
    -- a row turned over in U leaves sound lists
    turned_sound : (block : List ℕ) → length block ≡ block_size sizes → Spare sizes row block → SoundLists sizes issued block
        → SoundLists sizes limit (turned sizes row block)
    turned_sound block long spare s =
        let h : row < sizes.rows = omega arith in
        let whole = lists-whole s in
        let fits = turned_list-fits sizes limits row h block long whole spare in
        let stays = value-turned sizes row block long fits in
        let turns = update-turned sizes row block long fits in
        let parts = whole_parts sizes (turned sizes row block) (whole-turned sizes limits row h block long whole spare) in
        record {
          value = record {
            fits = parts.value_short;
            form = parts.value_canonical;
            clear = rw stays.lists (λ other l. s.value.clear other (omega arith));
            unused = rw (stays.counts, stays.fills) s.value.unused;
          };
          update = record {
            fits = parts.update_short;
            form = parts.update_canonical;
            clear = λ other l.
                rw (decode-turned sizes limits row h block long whole fits)
                (row_at-turned_over_other row (decode (update_list sizes block)) other (λ e. omega arith) ∙ s.update.clear other (omega arith));
            unused = rw (turns.counts, turns.fills) (unused_zero_lem (update_room sizes) _);
          };
          few_ones = parts.few_ones;
        }

    -- THEOREM: a flip leaves sound lists
    pub flipped_sound : (block : List ℕ) → length block ≡ block_size sizes → SoundLists sizes issued block → SoundLists sizes limit (flipped sizes row block)
    unfolding flipped
    flipped_sound block long s =
        let is = ready sizes limits row block long (lists-whole s) in
        let first : SoundLists sizes issued (before sizes row block) =
        either (merge_due sizes row block) (λ due. rw due (merged_sound block s)) (λ none. rw none s) in
        turned_sound (before sizes row block) is.long is.spare first
