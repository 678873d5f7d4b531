-- A flip: a merge first where one is due, then the row turned over in U. Both lists stay whole, and V xor U has the row turned over. Assumes nothing.
use mathlib.Core.Path.{◌≡◌, refl, ◌∙◌, ap}
use mathlib.Core.Bool.{Bool, true, false, cond}
use mathlib.Core.List.{List}
use Prim.Native.Nat.{ℕ, ◌-◌, ◌<◌, ◌≤◌}
use native.Mathlib.Omega.{arith}
use lib.ListN.{length}
use borrow.Author.Tests.{eq-eqb, leb-false}
use Rattle.groups.specs.Rows.{row_at}
use Rattle.words.specs.Words.{decode}
use Rattle.lists.specs.OneRow.{turned_over}
use Rattle.lists.proofs.TurningOver.{row_at-turned_over, row_at-turned_over_other}
use Rattle.blocks.specs.Sizes.{update_room, block_size}
use Rattle.blocks.specs.Inner.{Limits}
use Rattle.blocks.specs.Block.{value_length, value_words, value_list, update_list, current}
use Rattle.blocks.specs.Whole.{update_ones, whole_lists}
use Rattle.block_change.specs.Change.{merged, turned_list, merge_due, flipped}
use Rattle.blocks.specs.declared.sizes.Sizes.{Sizes}
use Rattle.blocks.proofs.Blocks.{ValueIs}
use Rattle.blocks.proofs.WholeLists.{whole_parts, length-current}
use Rattle.block_change.proofs.Merging.{length_merged, update_ones-merged, current-merged, whole-merged}
use Rattle.block_change.proofs.Turning.{Spare, turned_list-fits, length-turned, value-turned, current-turned, whole-turned}

-- ---- before the row is turned over

-- the block in which it is turned over
abbrev pub before : Sizes → ℕ → List ℕ → List ℕ
before sizes row block = cond (merge_due sizes row block) (merged sizes block) block

-- a block with whole lists and these groups of V xor U, whose U has room for the row
pub record Ready (sizes : Sizes) (row : ℕ) (groups block : List ℕ) : Type 0 where
  pub long : length block ≡ block_size sizes
  pub whole : whole_lists sizes block ≡ true
  pub spare : Spare sizes row block
  pub same : current sizes block ≡ groups

module _ (sizes : Sizes) (limits : Limits sizes) (row : ℕ) (block : List ℕ)
    (long : length block ≡ block_size sizes) (whole : whole_lists sizes block ≡ true) where
  -- where no merge is due, U has room
  pub kept_ready : merge_due sizes row block ≡ false → Ready sizes row (current sizes block) block
  unfolding merge_due
  kept_ready e =
      record {
        long = long;
        whole = whole;
        spare = λ none. leb-false sizes.threshold (update_ones sizes block) (rw (eq-eqb (row_at (decode (update_list sizes block)) row) 0 none) at e);
        same = refl;
      }

  -- after a merge U has no one
  pub merged_ready : Ready sizes row (current sizes block) (merged sizes block)
  merged_ready =
      record {
        long = length_merged sizes limits block whole;
        whole = whole-merged sizes limits block whole;
        spare = λ none. omega (arith, update_ones-merged sizes limits block whole);
        same = current-merged sizes limits block whole;
      }

  -- either way U has room
  pub ready : Ready sizes row (current sizes block) (before sizes row block)
  ready = go (merge_due sizes row block) refl
    where
      go : (due : Bool) → merge_due sizes row block ≡ due → Ready sizes row (current sizes block) (cond due (merged sizes block) block)
      go true e = merged_ready
      go false e = kept_ready e

-- ---- the flip

module _ (sizes : Sizes) (limits : Limits sizes) (row : ℕ) (h : row < sizes.rows) (block : List ℕ)
    (long : length block ≡ block_size sizes) (whole : whole_lists sizes block ≡ true) where
  -- the block before the row is turned over, and U's list after it
  abbrev from : List ℕ
  from = before sizes row block

  abbrev new : List ℕ
  new = turned_list sizes row from

  is : Ready sizes row (current sizes block) from
  is = ready sizes limits row block long whole

  pub turn_fits : length new ≤ update_room sizes
  turn_fits = turned_list-fits sizes limits row h from is.long is.whole is.spare

  pub length-flipped : length (flipped sizes row block) ≡ block_size sizes
  unfolding flipped
  length-flipped = length-turned sizes row from is.long turn_fits

  -- THEOREM: both lists are whole again
  pub whole-flipped : whole_lists sizes (flipped sizes row block) ≡ true
  unfolding flipped
  whole-flipped = whole-turned sizes limits row h from is.long is.whole is.spare

  -- THEOREM: U has at most T ones
  pub update_ones-flipped : update_ones sizes (flipped sizes row block) ≤ sizes.threshold
  update_ones-flipped = (whole_parts sizes (flipped sizes row block) whole-flipped).few_ones

  -- THEOREM: V xor U has the row turned over
  pub current-flipped : current sizes (flipped sizes row block) ≡ turned_over row (current sizes block)
  unfolding flipped
  current-flipped = current-turned sizes limits row h from is.long is.whole turn_fits ∙ ap (turned_over row) is.same

  pub row_at-flipped : row_at (current sizes (flipped sizes row block)) row ≡ 1 - row_at (current sizes block) row
  row_at-flipped = rw current-flipped (row_at-turned_over row (current sizes block) (omega (arith, length-current sizes limits block whole)))

  -- and every other row as it was
  pub row_at-flipped_other : (other : ℕ) → (other ≡ row → ⊥) → row_at (current sizes (flipped sizes row block)) other ≡ row_at (current sizes block) other
  row_at-flipped_other other e = rw current-flipped (row_at-turned_over_other row (current sizes block) other e)

  -- THEOREM: where no merge is due, V stays as it stands
  pub value_kept : merge_due sizes row block ≡ false
      → ValueIs sizes (value_length block) (value_words sizes block) (value_list sizes block) (flipped sizes row block)
  unfolding flipped
  value_kept none =
      let spare = (kept_ready sizes limits row block long whole none).spare in
      rw none (value-turned sizes row block long (turned_list-fits sizes limits row h block long whole spare))
