-- Rows and their canonical list: packing and unpacking undo each other, and the lists accepted are exactly the lists of rows. Assumes nothing.
use mathlib.Core.Path.{◌≡◌, refl, ◌∙◌, ap, sym}
use mathlib.Core.Bool.{true, ◌&&◌, and-eq-true_iff}
use mathlib.Core.Logic.{◌↔◌}
use mathlib.Core.List.{List, map}
use Prim.Native.Nat.{ℕ, ◌<◌, ◌≤◌}
use native.Mathlib.Omega.{arith}
use lib.Dec.{eqb}
use lib.ListN.{length, take}
use lib.Seq.{length-take-le}
use borrow.Author.Tests.{eqb-true, eq-eqb}
use Rattle.groups.specs.Rows.{row_limit, are_bits, groups_for, groups_of, rows_of, clear_from}
use Rattle.words.specs.Words.{unpacked, run_of, decode, encode, packed, no_fill, well_formed, canonical}
use Rattle.groups.proofs.Bits.{are_bits-take}
use Rattle.groups.proofs.Groups.{length-groups_of, groups_of-lt, length-rows_of, are_bits-rows_of}
use Rattle.groups.proofs.RowsBack.{rows_back, clear_from-groups_of, groups-back}
use Rattle.words.proofs.Round.{Words, decode-encode, encode-decode, encode_form, decode-groups}

-- ---- what canonical says

pub record CanonicalParts (count : ℕ) (list : List ℕ) : Type 0 where
  pub form : well_formed no_fill (map run_of list) ≡ true
  pub long : length (decode list) ≡ groups_for count
  pub clear : clear_from count (decode list) ≡ true

pub canonical_parts : (count : ℕ) (list : List ℕ) → canonical count list ≡ true → CanonicalParts count list
unfolding canonical
canonical_parts count list e =
    let long = eqb (length (decode list)) (groups_for count) in
    let s = (and-eq-true_iff (well_formed no_fill (map run_of list) && long) (clear_from count (decode list))).0 e in
    let t = (and-eq-true_iff (well_formed no_fill (map run_of list)) long).0 s.0 in
    record { form = t.0; long = eqb-true (length (decode list)) (groups_for count) t.1; clear = s.1 }

pub parts_canonical : (count : ℕ) (list : List ℕ) → CanonicalParts count list → canonical count list ≡ true
unfolding canonical
parts_canonical count list p = rw (p.form, eq-eqb (length (decode list)) (groups_for count) p.long, p.clear) refl

-- ---- rows packed

module _ (rows : List ℕ) (bits : are_bits rows ≡ true) (few : length rows ≤ row_limit) where
  few-groups : length (groups_of rows) < 0x40000000
  few-groups = omega (arith, length-groups_of rows)

  decode-packed : decode (packed rows) ≡ groups_of rows
  unfolding packed
  decode-packed = decode-encode (groups_of rows) (groups_of-lt rows bits) few-groups

  -- THEOREM: the list of some rows is canonical for their number
  pub packed-canonical : canonical (length rows) (packed rows) ≡ true
  unfolding packed
  packed-canonical =
      parts_canonical (length rows) (packed rows)
      (record {
        form = encode_form (groups_of rows) (groups_of-lt rows bits) few-groups;
        long = ap length decode-packed ∙ length-groups_of rows;
        clear = ap (clear_from (length rows)) decode-packed ∙ clear_from-groups_of rows bits;
      })

  -- THEOREM: the list of some rows, unpacked, is the rows
  pub unpacked-packed : unpacked (length rows) (packed rows) ≡ rows
  unpacked-packed = ap (λ (groups : List ℕ). take (length rows) (rows_of groups)) decode-packed ∙ rows_back rows bits

-- ---- a canonical list unpacked

pub unpacked_bits : (count : ℕ) (list : List ℕ) → are_bits (unpacked count list) ≡ true
unpacked_bits count list = are_bits-take count (rows_of (decode list)) (are_bits-rows_of (decode list))

module _ (count : ℕ) (list : List ℕ) (good : canonical count list ≡ true) where
  pub unpacked-length : length (unpacked count list) ≡ count
  unpacked-length =
      length-take-le count (rows_of (decode list)) (omega (arith, length-rows_of (decode list), (canonical_parts count list good).long))

  -- THEOREM: the rows of a canonical list, packed, are the list
  pub packed-unpacked : Words list → packed (unpacked count list) ≡ list
  unfolding packed
  packed-unpacked words =
      let parts = canonical_parts count list good in
      ap encode (groups-back count (decode list) (decode-groups list) parts.long parts.clear) ∙ encode-decode list words parts.form

-- THEOREM: two canonical lists of the same rows are the same
pub one_list : (count : ℕ) (list other : List ℕ) → Words list → Words other → canonical count list ≡ true → canonical count other ≡ true
    → unpacked count list ≡ unpacked count other → list ≡ other
one_list count list other h k p q e = sym (packed-unpacked count list p h) ∙ ap packed e ∙ packed-unpacked count other q k

-- ---- the lists accepted

-- the list is that of some rows, `count` of them
pub record HasRows (count : ℕ) (list : List ℕ) : Type 0 where
  pub rows : List ℕ
  pub bits : are_bits rows ≡ true
  pub long : length rows ≡ count
  pub packs : packed rows ≡ list

-- THEOREM: the lists that are canonical for L rows are exactly the lists of L rows
pub accepts_exactly : (count : ℕ) (list : List ℕ) → Words list → count ≤ row_limit → (canonical count list ≡ true) ↔ HasRows count list
accepts_exactly count list words few = (
  λ good. record {
    rows = unpacked count list;
    bits = unpacked_bits count list;
    long = unpacked-length count list good;
    packs = packed-unpacked count list good words;
  },
  λ has. rw (← has.packs, ← has.long) (packed-canonical has.rows has.bits (omega (arith, has.long))),
)
