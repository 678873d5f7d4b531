-- What Dump's loops come to: what Value finds for each row below n. Assumes nothing.
use mathlib.Core.Path.{◌≡◌, refl, ◌∙◌, sym}
use mathlib.Core.Bool.{Bool, true, false, not}
use mathlib.Core.List.{List, [], ◌∷◌}
use Prim.Native.Nat.{ℕ, zero, suc, ◌+◌, ◌<◌, ◌≤◌}
use native.Mathlib.Nat.{zero-add}
use native.Mathlib.Omega.{arith}
use lib.Dec.{eqb, ltb}
use lib.ListN.{length, get_or, take, replicate, length-append, length-replicate, get_or-replicate, get_or-append}
use lib.Seq.{ext_get_or, get_or_at, get_or-take, length-take-le}
use borrow.Author.Tests.{lt-ltb, ltb-true, eqb-true, eqb-false}
use Rattle.dump_marks.specs.Inner.{each_row, every_row}
use Rattle.dump_marks.proofs.EachRow.{length_each, get_or_each, every_each, each_every}
use Rattle.memory.specs.Memory.{Memory, every}
use Rattle.memory.specs.Reading.{row_of, is_damaged}
use Rattle.index.specs.Calls.{byte_of, bytes_of}
use Rattle.dump_spans.specs.Inner.{marked_values, values_hold}
use Rattle.memory.specs.declared.header.Header.{Header}
use Rattle.index.proofs.DumpValues.{row_byte, row_free, Tells, row_tells, all_free, all_marked, values_marked, values_hold_lem}
use Rattle.groups.proofs.Tests.{same_test}
use Rattle.fence_records.proofs.Every.{every_holds, holds_every}
use Rattle.memory.proofs.Headers.{Within}

-- ---- the bytes of the first rows

module _ (header : Header) (memory : Memory) where
  pub length-bytes_of : (count : ℕ) → length (bytes_of header memory count) ≡ count
  length-bytes_of zero = refl
  length-bytes_of (suc row) =
      omega (arith, length-append (bytes_of header memory row) (byte_of header memory row ∷ []), length-bytes_of row)

  pub get_or-bytes_of : (count row : ℕ) → row < count → get_or (bytes_of header memory count) row 0 ≡ byte_of header memory row
  get_or-bytes_of zero row h = absurd (omega arith)
  get_or-bytes_of (suc last) row h = go (eqb row last) refl (get_or-bytes_of last row)
    where
      go : (t : Bool) → eqb row last ≡ t → (row < last → get_or (bytes_of header memory last) row 0 ≡ byte_of header memory row)
          → get_or (bytes_of header memory (suc last)) row 0 ≡ byte_of header memory row
      go true e before = rw (eqb-true row last e) (get_or_at (bytes_of header memory last) (byte_of header memory last) [] 0 last (length-bytes_of last))
      go false e before =
          let less : row < last = omega (arith, eqb-false row last e) in
          get_or-append (bytes_of header memory last) (byte_of header memory last ∷ []) 0 row (omega (arith, length-bytes_of last)) ∙ before less

  -- ---- Dump, from bytes of 255 on

  module _ (w : Within header) (room : ℕ) (enough : header.issued ≤ room) where
    -- what is left of a row below n
    tells : (row : ℕ) → Tells (row_free header memory row 255 header.values) (row_byte header memory row 255 header.values) (row_of header memory row)
    unfolding row_of
    tells row = row_tells header memory row header.values (omega (arith, w.few_values))

    abbrev test : ℕ → ℕ → Bool
    test = all_free header memory header.values

    free_at : (row : ℕ) → row < header.issued → test (0 + row) (get_or (replicate room 255) row 0) ≡ not (is_damaged (row_of header memory row))
    free_at row h = rw (zero-add, lt-ltb row header.issued h, get_or-replicate {A = ℕ} room row 255 0 (omega arith)) (tells row).whole

    -- THEOREM: the loops find no damage exactly where Value finds none in any row below n
    pub dump_holds : values_hold header memory (replicate room 255) header.values ≡ every header.issued (λ row. not (is_damaged (row_of header memory row)))
    dump_holds =
        values_hold_lem header memory w.some_spacing (replicate room 255) header.values
        ∙ same_test (every_row test 0 (replicate room 255)) (every header.issued (λ row. not (is_damaged (row_of header memory row)))) there back
      where
        there : every_row test 0 (replicate room 255) ≡ true → every header.issued (λ row. not (is_damaged (row_of header memory row))) ≡ true
        there all =
            holds_every header.issued (λ row. not (is_damaged (row_of header memory row)))
            (λ row h. sym (free_at row h) ∙ every_each test 0 (replicate room 255) all row (omega (arith, length-replicate {A = ℕ} room 255)))

        back : every header.issued (λ row. not (is_damaged (row_of header memory row))) ≡ true → every_row test 0 (replicate room 255) ≡ true
        back all = each_every test 0 (replicate room 255) (λ row h. go row (ltb row header.issued) refl)
          where
            go : (row : ℕ) (t : Bool) → ltb row header.issued ≡ t → test (0 + row) (get_or (replicate room 255) row 0) ≡ true
            go row true e =
                let inside = ltb-true row header.issued e in
                free_at row inside ∙ every_holds header.issued (λ number. not (is_damaged (row_of header memory number))) all row inside
            go row false e = rw (zero-add, e) refl

    -- THEOREM: where they hold, the first n bytes are those of Dump
    pub dump_bytes : values_hold header memory (replicate room 255) header.values ≡ true
        → take header.issued (marked_values header memory (replicate room 255) header.values) ≡ bytes_of header memory header.issued
    dump_bytes held =
        rw (values_marked header memory w.some_spacing (replicate room 255) header.values)
        (ext_get_or 0 (take header.issued bytes) (bytes_of header memory header.issued) (long ∙ sym (length-bytes_of header.issued))
        (λ row h. byte_at row (omega (arith, long))))
      where
        bytes : List ℕ
        bytes = each_row (all_marked header memory header.values) 0 (replicate room 255)

        long : length (take header.issued bytes) ≡ header.issued
        long =
            length-take-le header.issued bytes
            (omega (arith, length_each (all_marked header memory header.values) 0 (replicate room 255), length-replicate {A = ℕ} room 255))

        free : (row : ℕ) → row < header.issued → row_free header memory row 255 header.values ≡ true
        free row h =
            (tells row).whole
            ∙ every_holds header.issued (λ number. not (is_damaged (row_of header memory number))) (sym dump_holds ∙ held) row h

        byte_at : (row : ℕ) → row < header.issued → get_or (take header.issued bytes) row 0 ≡ get_or (bytes_of header memory header.issued) row 0
        byte_at row h =
            get_or-take header.issued bytes row 0 h
            ∙ get_or_each (all_marked header memory header.values) 0 (replicate room 255) row 0 (omega (arith, length-replicate {A = ℕ} room 255))
            ∙ rw (zero-add, lt-ltb row header.issued h, get_or-replicate {A = ℕ} room row 255 0 (omega arith)) ((tells row).written (free row h))
            ∙ sym (get_or-bytes_of header.issued row h)
