-- What a column's value is loaded as: its list, row by row, and its block. Assumes nothing.
use mathlib.Core.Path.{◌≡◌, refl, ◌∙◌, ap}
use mathlib.Core.Bool.{true, cond}
use mathlib.Core.List.{List}
use Prim.Native.Nat.{ℕ, ◌<◌, ◌≤◌}
use native.Mathlib.Omega.{arith}
use lib.Dec.{eqb}
use lib.ListN.{length, get_or, take, length-take, get_or-eq_default}
use Rattle.groups.specs.Rows.{groups_for, groups_of, row_at, clear_from}
use Rattle.words.specs.Words.{decode, encode, canonical}
use Rattle.words.proofs.Canonical.{parts_canonical}
use Rattle.groups.proofs.Groups.{length-groups_of, groups_of-lt}
use Rattle.words.proofs.Round.{Groups, decode-encode, encode_form}
use Rattle.groups.proofs.RowsBack.{row_at-groups_of}
use Rattle.words.proofs.Size.{encode-length}
use Rattle.groups.proofs.Tail.{row_at-clear_from}
use Rattle.blocks.specs.Sizes.{value_room, block_size}
use Rattle.blocks.specs.Inner.{Limits}
use Rattle.blocks.specs.Block.{value_words, current, padded}
use Rattle.blocks.specs.Whole.{whole_lists}
use Rattle.load_list.specs.Column.{rows_with, groups_with, list_for, loaded}
use Rattle.load_list.specs.Inner.{packed_list, packed_block}
use Rattle.blocks.specs.declared.sizes.Sizes.{Sizes}
use Rattle.blocks.proofs.EmptyUpdates.{length-emptied, current-emptied, whole-emptied}
use Rattle.blocks.proofs.Rooms.{length-padded}
use Rattle.load_list.proofs.listing.Loop.{list-fits}
use Rattle.load_list.proofs.listing.Rows.{length-rows_with, get_or-rows_with, rows_with_bits, cut-padded, get_or-padded}

module _ (sizes : Sizes) (limits : Limits sizes) (value : ℕ) (column : List ℕ) (few : length column ≤ sizes.rows) where
  abbrev rows : List ℕ
  rows = rows_with value column

  abbrev groups : List ℕ
  groups = groups_with sizes value column

  enough : groups_for (length rows) ≤ sizes.groups
  enough = rw length-rows_with (omega arith)

  same : groups ≡ padded sizes.groups (groups_of rows)
  same = cut-padded sizes.groups rows enough

  length_all : length groups ≡ sizes.groups
  length_all = rw same (length-padded sizes.groups (groups_of rows) (rw length-groups_of enough))

  small : Groups groups
  small i = rw (same, get_or-padded) (groups_of-lt rows (rows_with_bits value column) i)

  row_is : (row : ℕ) → row_at groups row ≡ get_or rows row 0
  row_is row = rw (same, get_or-padded) (row_at-groups_of rows (rows_with_bits value column) row)

  -- THEOREM: a row is 1 exactly where the column's byte is the value, and 0 past the last byte
  pub row-held : (row : ℕ) → row < length column → row_at (groups_with sizes value column) row ≡ cond (eqb (get_or column row 0) value) 1 0
  row-held row h = row_is row ∙ get_or-rows_with value column row h

  pub row-past : (row : ℕ) → length column ≤ row → row_at (groups_with sizes value column) row ≡ 0
  row-past row h = row_is row ∙ get_or-eq_default rows 0 (rw length-rows_with h)

  -- ---- the list

  -- the list has room
  pub length-list_for : length (list_for sizes value column) ≤ value_room sizes
  unfolding list_for
  length-list_for = omega (arith, encode-length groups, length_all, limits.value_room_is)

  -- THEOREM: the list stands for the groups of the column
  pub decode-list_for : decode (list_for sizes value column) ≡ groups_with sizes value column
  unfolding list_for
  decode-list_for = decode-encode groups small (omega (arith, length_all))

  -- THEOREM: no bit at a row that was not issued
  pub clear_list_for : clear_from (length column) (decode (list_for sizes value column)) ≡ true
  clear_list_for = rw decode-list_for (row_at-clear_from (length column) groups row-past)

  -- THEOREM: the list is canonical for R rows
  pub canonical-list_for : canonical sizes.rows (list_for sizes value column) ≡ true
  unfolding list_for
  canonical-list_for =
      parts_canonical sizes.rows (encode groups)
      (record {
        form = encode_form groups small (omega (arith, length_all));
        long = ap length decode-list_for ∙ length_all ∙ limits.groups_are;
        clear = rw decode-list_for (row_at-clear_from sizes.rows groups (λ row h. row-past row (omega arith)));
      })

  -- ---- the block

  pub length-loaded : length (loaded sizes value column) ≡ block_size sizes
  unfolding loaded
  length-loaded = length-emptied sizes limits (list_for sizes value column) length-list_for

  -- THEOREM: both lists are whole
  pub whole-loaded : whole_lists sizes (loaded sizes value column) ≡ true
  unfolding loaded
  whole-loaded = whole-emptied sizes limits (list_for sizes value column) length-list_for canonical-list_for

  -- THEOREM: V xor U are the groups of the column
  pub current-loaded : current sizes (loaded sizes value column) ≡ groups_with sizes value column
  unfolding loaded
  current-loaded = current-emptied sizes limits (list_for sizes value column) length-list_for canonical-list_for ∙ decode-list_for

  -- THEOREM: the block is packed from the groups of the column where they stand in V's room
  pub packed-loaded : (block : List ℕ) → take (groups_for (length column)) (value_words sizes block) ≡ groups_of (rows_with value column)
      → packed_block sizes (groups_for (length column)) block ≡ loaded sizes value column
  unfolding packed_block packed_list loaded list_for
  packed-loaded block stands = rw (stands, ← same) refl

-- ---- a block that is packed from the groups that stand first in V's room

module _ (sizes : Sizes) (limits : Limits sizes) (filled : ℕ) (few : filled ≤ value_room sizes) (block : List ℕ) where
  -- there are at most M of them
  pub few_filled : length (take filled (value_words sizes block)) ≤ sizes.groups
  few_filled = omega (arith, length-take filled (value_words sizes block), limits.value_room_is)

  pub length-packed_list : length (packed_list sizes filled block) ≤ value_room sizes
  unfolding packed_list
  length-packed_list = omega (arith, list-fits sizes.groups (take filled (value_words sizes block)) few_filled, limits.value_room_is)

  pub length-packed_block : length (packed_block sizes filled block) ≡ block_size sizes
  unfolding packed_block
  length-packed_block = length-emptied sizes limits (packed_list sizes filled block) length-packed_list
