-- A row turned over in some groups: by XOR with the list of that row alone, row by row, and in the number of ones. Assumes nothing.
use mathlib.Core.Path.{◌≡◌, refl, ◌∙◌, ap, sym}
use mathlib.Core.Bool.{Bool, true, false}
use mathlib.Core.List.{List}
use Prim.Native.Nat.{ℕ, ◌+◌, ◌*◌, ◌-◌, ◌/◌, ◌<◌, ◌≤◌}
use native.Mathlib.Omega.{arith}
use lib.Dec.{eqb}
use lib.ListN.{length, get_or, set, length-set}
use lib.Seq.{take_all, drop-set-lt, get_or-set_same, get_or-set_other}
use borrow.Author.Tests.{eqb-true, eqb-false}
use Rattle.groups.specs.Rows.{row_limit, are_bits, ones_in, groups_for, groups_of, rows_of, row_at, all_zero, clear_from}
use Rattle.words.specs.Words.{decode, encode, canonical}
use Rattle.groups.proofs.Bits.{are_bits-set}
use Rattle.words.proofs.Canonical.{canonical_parts, parts_canonical}
use Rattle.words.proofs.Ones.{ones_in-set}
use Rattle.groups.proofs.Groups.{length-groups_of, groups_of-lt, length-rows_of, are_bits-rows_of, get_or-rows_of}
use Rattle.words.proofs.Round.{Groups, decode-encode, encode_form}
use Rattle.groups.proofs.RowsBack.{row_at-groups_of, rows_back, same_groups}
use Rattle.lists.specs.Combine.{exclusive, answer, combined}
use Rattle.lists.specs.OneRow.{turned_over}
use Rattle.lists.specs.Inner.{one_row}
use Rattle.lists.proofs.Operations.{exclusive_bits, turns}
use Rattle.lists.proofs.Combining.{length-combined, combined-lt, row_at-combined_any}
use Rattle.lists.proofs.OneRow.{length-one_row, row_at-one_row, row_at-one_row_other}

-- ---- the groups with the row turned over

module _ (row : ℕ) (groups : List ℕ) where
  -- what becomes of the row
  abbrev flipped : ℕ
  flipped = 1 - get_or (rows_of groups) row 0

  -- the rows with the row turned over
  abbrev turned : List ℕ
  turned = set (rows_of groups) row flipped

  are_bits-turned : are_bits turned ≡ true
  are_bits-turned = are_bits-set (rows_of groups) row flipped (are_bits-rows_of groups) (omega arith)

  length-turned : length turned ≡ 31 * length groups
  length-turned = length-set (rows_of groups) row flipped ∙ length-rows_of groups

  pub length-turned_over : length (turned_over row groups) ≡ length groups
  unfolding turned_over
  length-turned_over = omega (arith, length-groups_of turned, length-turned)

  pub turned_over-lt : Groups (turned_over row groups)
  unfolding turned_over
  turned_over-lt = groups_of-lt turned are_bits-turned

  row_at-turned : (other : ℕ) → row_at (turned_over row groups) other ≡ get_or turned other 0
  unfolding turned_over
  row_at-turned = row_at-groups_of turned are_bits-turned

  rows_of-turned_over : rows_of (turned_over row groups) ≡ turned
  unfolding turned_over
  rows_of-turned_over =
      sym (take_all (length turned) (rows_of (groups_of turned)) (omega (arith, length-rows_of (groups_of turned), length-groups_of turned, length-turned)))
      ∙ rows_back turned are_bits-turned

  -- THEOREM: every other row is as it was
  pub row_at-turned_over_other : (other : ℕ) → (other ≡ row → ⊥) → row_at (turned_over row groups) other ≡ row_at groups other
  row_at-turned_over_other other e = row_at-turned other ∙ get_or-set_other (rows_of groups) row other flipped 0 e ∙ get_or-rows_of groups other

  -- THEOREM: no row after the row is set that was not
  clear_from-turned_over : (limit : ℕ) → row < limit → clear_from limit (turned_over row groups) ≡ clear_from limit groups
  unfolding clear_from
  clear_from-turned_over limit h = rw rows_of-turned_over (ap all_zero (drop-set-lt limit (rows_of groups) row flipped h))

  module _ (within : row / 31 < length groups) where
    -- THEOREM: the row is turned over
    pub row_at-turned_over : row_at (turned_over row groups) row ≡ 1 - row_at groups row
    row_at-turned_over =
        row_at-turned row
        ∙ get_or-set_same (rows_of groups) row flipped 0 (omega (arith, length-rows_of groups))
        ∙ ap (λ (bit : ℕ). 1 - bit) (get_or-rows_of groups row)

    ones_in-turned_over : ones_in (rows_of (turned_over row groups)) + row_at groups row ≡ ones_in (rows_of groups) + (1 - row_at groups row)
    ones_in-turned_over =
        rw (rows_of-turned_over, ← get_or-rows_of groups row) (ones_in-set (rows_of groups) row flipped (omega (arith, length-rows_of groups)))

    -- THEOREM: a row that was 0 makes one more, and a row that was 1 makes one less
    pub ones_in-more : row_at groups row ≡ 0 → ones_in (rows_of (turned_over row groups)) ≡ ones_in (rows_of groups) + 1
    ones_in-more e = omega (arith, ones_in-turned_over)

    pub ones_in_less : row_at groups row ≡ 1 → ones_in (rows_of (turned_over row groups)) + 1 ≡ ones_in (rows_of groups)
    ones_in_less e = omega (arith, ones_in-turned_over)

-- ---- by XOR

-- THEOREM: the XOR of some groups with those of one row has that row turned over
pub xor-one_row : (count row : ℕ) (groups : List ℕ) → length groups ≡ count → row / 31 < count
    → combined exclusive groups (one_row count row) ≡ turned_over row groups
xor-one_row count row groups long within =
    same_groups (combined exclusive groups alone) (turned_over row groups) (combined-lt exclusive exclusive_bits groups alone) (turned_over-lt row groups)
    (length-combined exclusive groups alone same ∙ sym (length-turned_over row groups))
    (λ other. row_at-combined_any exclusive exclusive_bits groups alone other same refl ∙ go other (eqb other row) refl)
  where
    alone : List ℕ
    alone = one_row count row

    same : length groups ≡ length alone
    same = long ∙ sym (length-one_row count row within)

    go : (other : ℕ) (t : Bool) → eqb other row ≡ t → answer exclusive (row_at groups other) (row_at alone other) ≡ row_at (turned_over row groups) other
    go other true e =
        let here : other ≡ row = eqb-true other row e in
        rw (here, row_at-one_row count row, row_at-turned_over row groups (omega arith)) (turns (row_at groups row) (omega arith)).0
    go other false e =
        let there = eqb-false other row e in
        rw (row_at-one_row_other count row other there, row_at-turned_over_other row groups other there) (turns (row_at groups other) (omega arith)).1

-- THEOREM: a canonical list with a row turned over is canonical
pub canonical-turned_over : (rows row : ℕ) (list : List ℕ) → row < rows → rows ≤ row_limit → canonical rows list ≡ true
    → canonical rows (encode (turned_over row (decode list))) ≡ true
canonical-turned_over rows row list h few good =
    let parts = canonical_parts rows list good in
    let groups = turned_over row (decode list) in
    let long : length groups ≡ groups_for rows = length-turned_over row (decode list) ∙ parts.long in
    let back : decode (encode groups) ≡ groups = decode-encode groups (turned_over-lt row (decode list)) (omega arith) in
    parts_canonical rows (encode groups)
    (record {
      form = encode_form groups (turned_over-lt row (decode list)) (omega arith);
      long = ap length back ∙ long;
      clear = rw back (clear_from-turned_over row (decode list) rows h ∙ parts.clear);
    })
