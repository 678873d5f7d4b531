-- Dump's loop over the fences of one value, row by row: each row below n is read by its own fence. Assumes nothing.
use mathlib.Core.Path.{◌≡◌, refl, ◌∙◌, ap, ap₂, sym}
use mathlib.Core.Bool.{Bool, true, false, cond, ◌&&◌, and-true, and-false}
use mathlib.Core.List.{List}
use Prim.Native.Nat.{ℕ, zero, suc, min, ◌+◌, ◌*◌, ◌-◌, ◌/◌, ◌<◌, ◌≤◌}
use native.Mathlib.Nat.{div-lt_iff_lt-mul, le-div_iff_mul-le, suc-mul}
use native.Mathlib.Omega.{arith}
use lib.Dec.{eqb, ltb}
use borrow.Author.Tests.{lt-ltb, le-ltb, le-leb, lt-leb, ltb-true, ltb-false, eqb-true, eqb-false}
use Rattle.groups.specs.Rows.{groups_for}
use Rattle.blocks.specs.Sizes.{fences_for}
use Rattle.dump_marks.specs.Inner.{each_row, every_row, free_in_reading, marked_in_reading, in_span}
use Rattle.dump_marks.proofs.EachRow.{each_keeps, each_then, each_agrees, each_every, every_then, every_agrees}
use Rattle.blocks.proofs.SizeLaws.{rounded_of}
use Rattle.block_read.specs.Read.{read_group}
use Rattle.memory.specs.Memory.{Memory, sizes_of, block_at}
use Rattle.memory.specs.Reading.{fence_for, read_in}
use Rattle.dump_spans.specs.Inner.{free_in_span, marked_in_span, span_holds, span_marked, fence_holds, fence_marked, fence_number, turn_holds, turn_marked, marked_fences, fences_hold}
use Rattle.memory.specs.declared.header.Header.{Header}

-- ---- the fence of a group

-- the rows of the groups that fence j serves
module _ (spacing issued j : ℕ) (some : 1 ≤ spacing) where
  abbrev span : ℕ → Bool
  span row = in_span (j * spacing) (min (j * spacing + spacing) (groups_for issued)) issued row

  span-before : (row : ℕ) → row / 31 / spacing < j → span row ≡ false
  span-before row h = rw (lt-leb (j * spacing) (row / 31) ((div-lt_iff_lt-mul some).0 h)) refl

  span-behind : (row : ℕ) → j < row / 31 / spacing → span row ≡ false
  span-behind row h =
      let past : j * spacing + spacing ≤ row / 31 = omega (arith, (le-div_iff_mul-le some).0 h, suc-mul j spacing) in
      rw (le-ltb (row / 31) (min (j * spacing + spacing) (groups_for issued)) (omega arith), and-false) refl

  span_within : (row : ℕ) → row / 31 / spacing ≡ j → span row ≡ ltb row issued
  span_within row e = go (ltb row issued) refl
    where
      from : j * spacing ≤ row / 31
      from = (le-div_iff_mul-le some).0 (omega (arith, e))

      go : (t : Bool) → ltb row issued ≡ t → span row ≡ t
      go false out = rw (out, and-false, and-false) refl
      go true inside =
          let issued-row : row < issued = ltb-true row issued inside in
          let to : row / 31 < j * spacing + spacing = rw suc-mul at ((div-lt_iff_lt-mul {k = spacing} {x = row / 31} {y = suc j} some).0 (omega (arith, e))) in
          rw (le-leb (j * spacing) (row / 31) from, lt-ltb (row / 31) (min (j * spacing + spacing) (groups_for issued)) (omega arith), inside) refl

-- ---- the fences of one value

-- what one value says of a row below n, and makes of its byte
abbrev pub issued_free : Header → Memory → ℕ → ℕ → ℕ → Bool
issued_free header memory value row byte = cond (ltb row header.issued) (free_in_reading (read_in (sizes_of header) memory row value) row byte) true

abbrev pub issued_marked : Header → Memory → ℕ → ℕ → ℕ → ℕ
issued_marked header memory value row byte = cond (ltb row header.issued) (marked_in_reading (read_in (sizes_of header) memory row value) value row byte) byte

module _ (header : Header) (memory : Memory) (value : ℕ) (some : 1 ≤ header.spacing) where
  -- the rows of the first j fences
  abbrev served : ℕ → ℕ → Bool
  served j row = ltb (row / 31 / header.spacing) j && ltb row header.issued

  abbrev served_free : ℕ → ℕ → ℕ → Bool
  served_free j row byte = cond (served j row) (free_in_reading (read_in (sizes_of header) memory row value) row byte) true

  abbrev served_marked : ℕ → ℕ → ℕ → ℕ
  served_marked j row byte = cond (served j row) (marked_in_reading (read_in (sizes_of header) memory row value) value row byte) byte

  -- what the span of fence j says and makes of a row
  abbrev span_free : ℕ → ℕ → ℕ → Bool
  span_free j =
      free_in_span (sizes_of header) (fence_number (sizes_of header) memory value j)
      (block_at (sizes_of header) memory.words value) (j * header.spacing) (min (j * header.spacing + header.spacing) (groups_for header.issued)) header.issued

  abbrev span_mark : ℕ → ℕ → ℕ → ℕ
  span_mark j =
      marked_in_span (sizes_of header) (fence_number (sizes_of header) memory value j)
      (block_at (sizes_of header) memory.words value) (j * header.spacing) (min (j * header.spacing + header.spacing) (groups_for header.issued)) header.issued value

  module _ (j row byte : ℕ) where
    -- the number of the row's fence
    abbrev number : ℕ
    number = row / 31 / header.spacing

    -- the row is read by fence j
    read_by : number ≡ j
        → read_in (sizes_of header) memory row value
        ≡ read_group (sizes_of header) (fence_number (sizes_of header) memory value j) (row / 31)
        (block_at (sizes_of header) memory.words value)
    unfolding read_in fence_for
    read_by e =
        ap (λ (k : ℕ). read_group (sizes_of header) (fence_number (sizes_of header) memory value k) (row / 31)
        (block_at (sizes_of header) memory.words value)) e

    -- one fence more
    fence_more : (served_marked (suc j) row byte ≡ span_mark j row (served_marked j row byte))
        × (served_free (suc j) row byte ≡ served_free j row byte && span_free j row (served_marked j row byte))
    fence_more = go (ltb number j) (eqb number j) refl refl
      where
        go : (less same : Bool) → ltb number j ≡ less → eqb number j ≡ same
            → (served_marked (suc j) row byte ≡ span_mark j row (served_marked j row byte))
            × (served_free (suc j) row byte ≡ served_free j row byte && span_free j row (served_marked j row byte))
        go true same l e =
            let less : number < j = ltb-true number j l in
            rw (l, lt-ltb number (suc j) (omega arith), span-before header.spacing header.issued j some row less, and-true) (refl, refl)
        go false true l e =
            let here : number ≡ j = eqb-true number j e in
            rw (l, lt-ltb number (suc j) (omega arith), span_within header.spacing header.issued j some row here, read_by here) (refl, refl)
        go false false l e =
            let more : suc j ≤ number = omega (arith, ltb-false number j l, eqb-false number j e) in
            rw (l, le-ltb number (suc j) more, span-behind header.spacing header.issued j some row more) (refl, refl)

  -- the first fences, row by row
  fences_marked : (rows : List ℕ) (j : ℕ) → marked_fences header memory value rows j ≡ each_row (served_marked j) 0 rows
  unfolding fence_marked span_marked
  fences_marked rows zero = sym (each_keeps (served_marked 0) 0 rows (λ i byte h. rw (le-ltb ((0 + i) / 31 / header.spacing) 0 (omega arith)) refl))
  fences_marked rows (suc j) =
      ap (λ (bytes : List ℕ). turn_marked header memory value bytes j) (fences_marked rows j)
      ∙ sym (each_then (served_marked j) (span_mark j) (served_marked (suc j)) (λ row byte. (fence_more j row byte).0) 0 rows)

  fences_hold_lem : (rows : List ℕ) (j : ℕ) → fences_hold header memory value rows j ≡ every_row (served_free j) 0 rows
  unfolding fence_holds span_holds
  fences_hold_lem rows zero = sym (each_every (served_free 0) 0 rows (λ i h. rw (le-ltb ((0 + i) / 31 / header.spacing) 0 (omega arith)) refl))
  fences_hold_lem rows (suc j) =
      ap₂ ◌&&◌ (fences_hold_lem rows j) (ap (λ (bytes : List ℕ). turn_holds header memory value bytes j) (fences_marked rows j))
      ∙ sym (every_then (served_marked j) (served_free j) (span_free j) (served_free (suc j)) (λ row byte. (fence_more j row byte).1) 0 rows)

  -- all fences that serve a row below n
  all_served : (row : ℕ) → served (fences_for (groups_for header.issued) header.spacing) row ≡ ltb row header.issued
  unfolding fences_for
  all_served row = go (ltb row header.issued) refl
    where
      go : (t : Bool) → ltb row header.issued ≡ t → served (fences_for (groups_for header.issued) header.spacing) row ≡ t
      go false e = rw (e, and-false) refl
      go true e =
          let inside : row < header.issued = ltb-true row header.issued e in
          let fence = rounded_of (groups_for header.issued) header.spacing some (row / 31) (omega arith) in
          rw (lt-ltb (row / 31 / header.spacing) ((groups_for header.issued + (header.spacing - 1)) / header.spacing) fence, e) refl

  -- THEOREM: the fences of a value come to one read of each row below n
  pub value_marked : (rows : List ℕ)
      → marked_fences header memory value rows (fences_for (groups_for header.issued) header.spacing) ≡ each_row (issued_marked header memory value) 0 rows
  value_marked rows =
      fences_marked rows (fences_for (groups_for header.issued) header.spacing)
      ∙ each_agrees (served_marked (fences_for (groups_for header.issued) header.spacing)) (issued_marked header memory value) 0 0 rows
      (λ i byte h. rw (all_served (0 + i)) refl)

  pub value_holds : (rows : List ℕ)
      → fences_hold header memory value rows (fences_for (groups_for header.issued) header.spacing) ≡ every_row (issued_free header memory value) 0 rows
  value_holds rows =
      fences_hold_lem rows (fences_for (groups_for header.issued) header.spacing)
      ∙ every_agrees (served_free (fences_for (groups_for header.issued) header.spacing)) (issued_free header memory value) 0 0 rows
      (λ i byte h. rw (all_served (0 + i)) refl)
