-- A row turned over in U: what is read of the block then, that U has room for it, and that both lists stay whole. Assumes nothing.
use mathlib.Core.Path.{◌≡◌, refl, ◌∙◌, ap, sym}
use mathlib.Core.Bool.{Bool, true, false}
use mathlib.Core.List.{List}
use Prim.Native.Nat.{ℕ, ◌-◌, ◌/◌, ◌<◌, ◌≤◌}
use native.Mathlib.Omega.{arith}
use lib.Dec.{eqb}
use lib.ListN.{length}
use borrow.Author.Tests.{eqb-true, eqb-false}
use Rattle.groups.specs.Rows.{row_at, rows_of, ones_in}
use Rattle.words.specs.Words.{decode, canonical}
use Rattle.words.proofs.Round.{decode-encode}
use Rattle.words.proofs.Size.{encode-ones}
use Rattle.lists.specs.OneRow.{turned_over}
use Rattle.lists.proofs.TurningOver.{length-turned_over, turned_over-lt, row_at-turned_over, ones_in-more, ones_in_less, canonical-turned_over}
use Rattle.blocks.specs.Sizes.{update_room, block_size}
use Rattle.blocks.specs.Inner.{Limits}
use Rattle.blocks.specs.Block.{value_length, value_words, value_list, update_list, current, padded}
use Rattle.blocks.specs.Whole.{update_ones, whole_lists}
use Rattle.block_change.specs.Change.{turned_list, turned}
use Rattle.blocks.specs.declared.sizes.Sizes.{Sizes}
use Rattle.blocks.proofs.Rooms.{length-padded}
use Rattle.blocks.proofs.Blocks.{ValueIs, UpdateIs, length-with_update, value-with_update, update_put}
use Rattle.blocks.proofs.WholeLists.{WholeParts, whole_parts, parts_whole, value_covers, update_covers, length-current}
use Rattle.lists.proofs.Exclusive.{xor-turned_over}

-- ---- what is read of the block

module _ (sizes : Sizes) (row : ℕ) (block : List ℕ) (long : length block ≡ block_size sizes)
    (fits : length (turned_list sizes row block) ≤ update_room sizes) where
  abbrev list : List ℕ
  list = turned_list sizes row block

  pub length-turned : length (turned sizes row block) ≡ block_size sizes
  unfolding turned
  length-turned = length-with_update sizes block long (length list) (padded (update_room sizes) list) (length-padded (update_room sizes) list fits)

  -- THEOREM: V stays as it stands
  pub value-turned : ValueIs sizes (value_length block) (value_words sizes block) (value_list sizes block) (turned sizes row block)
  unfolding turned
  value-turned = value-with_update sizes block long (length list) (padded (update_room sizes) list) (length-padded (update_room sizes) list fits)

  -- U is put with its room
  pub update-turned : UpdateIs sizes (length list) (padded (update_room sizes) list) list (turned sizes row block)
  unfolding turned
  update-turned = update_put sizes block long list fits

-- ---- the number of ones

-- U has fewer than T ones, or the row's bit in it is 1
abbrev pub Spare : Sizes → ℕ → List ℕ → Type 0
Spare sizes row block = row_at (decode (update_list sizes block)) row ≡ 0 → update_ones sizes block < sizes.threshold

-- at most so many ones stay at most so many, if there are fewer or the row is 1
ones-turned_over : (row most : ℕ) (groups : List ℕ) → row / 31 < length groups → ones_in (rows_of groups) ≤ most
    → (row_at groups row ≡ 0 → ones_in (rows_of groups) < most) → ones_in (rows_of (turned_over row groups)) ≤ most
ones-turned_over row most groups within few spare = go (eqb (row_at groups row) 0) refl
  where
    go : (t : Bool) → eqb (row_at groups row) 0 ≡ t → ones_in (rows_of (turned_over row groups)) ≤ most
    go true e =
        let none : row_at groups row ≡ 0 = eqb-true (row_at groups row) 0 e in
        omega (arith, ones_in-more row groups within none, spare none)
    go false e =
        let some = eqb-false (row_at groups row) 0 e in
        omega (arith, ones_in_less row groups within (omega arith))

-- ---- a block whose lists are whole

module _ (sizes : Sizes) (limits : Limits sizes) (row : ℕ) (h : row < sizes.rows) (block : List ℕ)
    (long : length block ≡ block_size sizes) (whole : whole_lists sizes block ≡ true) where
  parts : WholeParts sizes block
  parts = whole_parts sizes block whole

  abbrev value : List ℕ
  value = decode (value_list sizes block)

  abbrev update : List ℕ
  update = decode (update_list sizes block)

  long_value : length value ≡ sizes.groups
  long_value = (value_covers sizes limits block whole).long

  long_update : length update ≡ sizes.groups
  long_update = (update_covers sizes limits block whole).long

  within : row / 31 < length update
  within = omega (arith, long_update)

  decode-turned_list : decode (turned_list sizes row block) ≡ turned_over row update
  unfolding turned_list
  decode-turned_list = decode-encode (turned_over row update) (turned_over-lt row update) (omega (arith, length-turned_over row update, long_update))

  canonical-turned_list : canonical sizes.rows (turned_list sizes row block) ≡ true
  unfolding turned_list
  canonical-turned_list = canonical-turned_over sizes.rows row (update_list sizes block) h limits.few_rows parts.update_canonical

  few-turned : Spare sizes row block → ones_in (rows_of (turned_over row update)) ≤ sizes.threshold
  unfolding update_ones
  few-turned = ones-turned_over row sizes.threshold update within parts.few_ones

  -- THEOREM: the room of U is never exceeded
  pub turned_list-fits : Spare sizes row block → length (turned_list sizes row block) ≤ update_room sizes
  unfolding turned_list
  turned_list-fits spare = omega (arith, encode-ones (turned_over row update) (turned_over-lt row update), few-turned spare)

  module _ (fits : length (turned_list sizes row block) ≤ update_room sizes) where
    -- THEOREM: U has the row turned over
    pub decode-turned : decode (update_list sizes (turned sizes row block)) ≡ turned_over row (decode (update_list sizes block))
    decode-turned = ap decode (update-turned sizes row block long fits).lists ∙ decode-turned_list

    -- THEOREM: V xor U has the row turned over
    pub current-turned : current sizes (turned sizes row block) ≡ turned_over row (current sizes block)
    unfolding current
    current-turned =
        rw ((value-turned sizes row block long fits).lists, decode-turned)
        (xor-turned_over row value update (long_value ∙ sym long_update) (omega (arith, long_value)))

    pub row_at-turned : row_at (current sizes (turned sizes row block)) row ≡ 1 - row_at (current sizes block) row
    row_at-turned = rw current-turned (row_at-turned_over row (current sizes block) (omega (arith, length-current sizes limits block whole)))

  -- THEOREM: both lists are whole again
  pub whole-turned : Spare sizes row block → whole_lists sizes (turned sizes row block) ≡ true
  whole-turned spare =
      let fits = turned_list-fits spare in
      let stays = value-turned sizes row block long fits in
      let turns = update-turned sizes row block long fits in
      parts_whole sizes (turned sizes row block)
      (record {
        value_short = rw stays.counts parts.value_short;
        update_short = rw turns.counts fits;
        value_canonical = rw stays.lists parts.value_canonical;
        update_canonical = rw turns.lists canonical-turned_list;
        few_ones = unfold update_ones in rw (decode-turned fits) (few-turned spare);
      })
