-- `flip_row` turns the row over in U, after a merge where one is due: U has room for it either way.
use mathlib.Core.Path.{◌≡◌, refl, ◌∙◌, sym}
use mathlib.Core.Bool.{Bool, true, false}
use mathlib.Core.List.{List}
use Prim.Native.Nat.{ℕ}
use Rattle.blocks.specs.declared.sizes.Sizes.{Sizes}
use Rattle.block_change.specs.Change.{merged, merge_due, flipped}
use Rattle.block_change.proofs.Flipping.{before, ready, turn_fits}
use Rattle.blocks.proofs.Opened.{limits_of}
use Rattle.block_change.proofs.change.flip_row.Goals as goal
use Rattle.block_change.proofs.change.flip_row.Goals.{then-merges, else-merges}

-- the block in which the row is turned over, where a merge came first and where none did
module _ (sizes : Sizes) (row : ℕ) (now : List ℕ) {merges : Bool} (due : merges ≡ merge_due sizes row now) {block : List ℕ} where
  merges_first : merges ≡ true → block ≡ merged sizes now → block ≡ before sizes row now
  merges_first taken is = let e : merge_due sizes row now ≡ true = sym due ∙ taken in rw e is

  turns_at_once : merges ≡ false → block ≡ now → block ≡ before sizes row now
  turns_at_once left is = let e : merge_due sizes row now ≡ false = sym due ∙ left in rw e is

pub turn-requires : goal.turn-requires
turn-requires c =
    let a = c.args in
    let is = ready a.sizes (limits_of c.sizes.view_is c.sizes.invariant) a.row a.block.now c.requires.0 c.requires.1 in
    let fits = turn_fits a.sizes (limits_of c.sizes.view_is c.sizes.invariant) a.row c.requires.2 a.block.now c.requires.0 c.requires.1 in
    let half : c.if-merges.block ≡ before a.sizes a.row a.block.now = elim c.if-merges.branch [
      | then-merges w ↦ merges_first a.sizes a.row a.block.now c.requires.3 w.if-merges.true (w.block-is ∙ w.merge.ensures)
      | else-merges w ↦ turns_at_once a.sizes a.row a.block.now c.requires.3 w.if-merges.false w.block-is
    ] in
    (rw half is.long, rw half is.whole, c.requires.2, rw half fits)

pub returns : goal.returns
unfolding flipped
returns c =
    let a = c.args in
    let half : c.if-merges.block ≡ before a.sizes a.row a.block.now = elim c.if-merges.branch [
      | then-merges w ↦ merges_first a.sizes a.row a.block.now c.requires.3 w.if-merges.true (w.block-is ∙ w.merge.ensures)
      | else-merges w ↦ turns_at_once a.sizes a.row a.block.now c.requires.3 w.if-merges.false w.block-is
    ] in
    c.turn.ensures ∙ rw half refl
