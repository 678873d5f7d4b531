-- Spans of groups: two that meet, readings that agree, and groups that all have the same bits. Assumes nothing.
use Rattle.std.specs.Prelude.{Option, None}
use mathlib.Core.Path.{◌≡◌, refl, ◌∙◌, ap}
use mathlib.Core.Bool.{Bool, true, false, ◌&&◌, and-true, and-false}
use mathlib.Core.List.{List, ◌++◌}
use Prim.Native.Nat.{ℕ, min, ◌+◌, ◌*◌, ◌-◌, ◌/◌, ◌%◌, ◌<◌, ◌≤◌}
use native.Mathlib.Nat.{zero-add}
use native.Mathlib.Omega.{arith}
use lib.Dec.{leb, ltb}
use lib.ListN.{length, take, get_or}
use lib.Seq.{length-take-le}
use borrow.Author.Tests.{lt-ltb, le-ltb, le-leb, lt-leb, leb-true, ltb-true, ltb-false}
use borrow.Rule.Slice.PartMut.{mid_of, post_of, put_mid, mid_len, put_same}
use Rattle.dump_marks.specs.Inner.{each_row, every_row, free_in_group, marked_in_group, free_in_reading, marked_in_reading, in_span, free_in_groups, marked_in_groups, groups_hold, groups_marked, alike}
use Rattle.block_read.specs.declared.read.Reading.{Reading}
use Rattle.block_read.proofs.Readings.{read_as}
use Rattle.dump_marks.proofs.EachRow.{each_append, each_keeps, each_agrees, each_then, every_append, every_agrees, each_every, every_fails, every_then}

module _ (reading : ℕ → Option Reading) (issued : ℕ) where
  -- ---- no group

  module _ (from : ℕ) (rows : List ℕ) where
    outside_none : (row : ℕ) → in_span from from issued row ≡ false
    outside_none row = go (ltb (row / 31) from) refl
      where
        go : (t : Bool) → ltb (row / 31) from ≡ t → in_span from from issued row ≡ false
        go true e = rw (lt-leb from (row / 31) (ltb-true (row / 31) from e)) refl
        go false e = rw (e, and-false) refl

    pub holds_none : groups_hold reading from from issued rows ≡ true
    unfolding groups_hold
    holds_none = each_every (free_in_groups reading from from issued) 0 rows (λ i h. rw (outside_none (0 + i)) refl)

    pub marked_none : (value : ℕ) → groups_marked reading from from issued value rows ≡ rows
    unfolding groups_marked
    marked_none value = each_keeps (marked_in_groups reading from from issued value) 0 rows (λ i byte h. rw (outside_none (0 + i)) refl)

  -- ---- two spans that meet

  module _ (from mid to value : ℕ) (up : from ≤ mid) (on : mid ≤ to) where
    meets : (row byte : ℕ)
        → (marked_in_groups reading from to issued value row byte
        ≡ marked_in_groups reading mid to issued value row (marked_in_groups reading from mid issued value row byte))
        × (free_in_groups reading from to issued row byte
        ≡ free_in_groups reading from mid issued row byte
        && free_in_groups reading mid to issued row (marked_in_groups reading from mid issued value row byte))
    meets row byte = go (ltb (row / 31) mid) refl
      where
        go : (t : Bool) → ltb (row / 31) mid ≡ t
            → (marked_in_groups reading from to issued value row byte
            ≡ marked_in_groups reading mid to issued value row (marked_in_groups reading from mid issued value row byte))
            × (free_in_groups reading from to issued row byte
            ≡ free_in_groups reading from mid issued row byte
            && free_in_groups reading mid to issued row (marked_in_groups reading from mid issued value row byte))
        go true e =
            let below = ltb-true (row / 31) mid e in
            rw (e, lt-leb mid (row / 31) below, lt-ltb (row / 31) to (omega (arith, below)), and-true) (refl, refl)
        go false e =
            let above = ltb-false (row / 31) mid e in
            rw (e, le-leb mid (row / 31) above, le-leb from (row / 31) (omega (arith, above))) (refl, refl)

    -- THEOREM: what the longer span leaves, the second leaves behind the first
    pub marked_join : (rows : List ℕ)
        → groups_marked reading from to issued value rows
        ≡ groups_marked reading mid to issued value (groups_marked reading from mid issued value rows)
    unfolding groups_marked
    marked_join rows =
        each_then (marked_in_groups reading from mid issued value) (marked_in_groups reading mid to issued value)
        (marked_in_groups reading from to issued value) (λ row byte. (meets row byte).0) 0 rows

    -- THEOREM: the longer span holds where the first does, and the second of what it leaves
    pub holds_join : (rows : List ℕ)
        → groups_hold reading from to issued rows
        ≡ groups_hold reading from mid issued rows
        && groups_hold reading mid to issued (groups_marked reading from mid issued value rows)
    unfolding groups_hold groups_marked
    holds_join rows =
        every_then (marked_in_groups reading from mid issued value) (free_in_groups reading from mid issued)
        (free_in_groups reading mid to issued) (free_in_groups reading from to issued) (λ row byte. (meets row byte).1) 0 rows

  -- ---- the rows of a span's groups, of which the first has a row below n

  module _ (from to : ℕ) where
    before-span : (row : ℕ) → row < from * 31 → in_span from to issued row ≡ false
    before-span row h = rw (lt-leb from (row / 31) (omega arith)) refl

    behind-span : (row : ℕ) → min (to * 31) issued ≤ row → in_span from to issued row ≡ false
    behind-span row h = go (ltb row issued) refl
      where
        go : (t : Bool) → ltb row issued ≡ t → in_span from to issued row ≡ false
        go true e = rw (le-ltb (row / 31) to (omega (arith, ltb-true row issued e)), and-false) refl
        go false e = rw (e, and-false, and-false) refl

    pub in_span_lem : (row : ℕ) → from * 31 ≤ row → row < min (to * 31) issued → in_span from to issued row ≡ true
    in_span_lem row h k =
        rw (le-leb from (row / 31) (omega arith), lt-ltb (row / 31) to (omega arith), lt-ltb row issued (omega arith)) refl

    -- its first read is broken
    pub holds_broken : (rows : List ℕ) → from < to → from * 31 < issued → issued ≤ length rows → reading from ≡ None
        → groups_hold reading from to issued rows ≡ false
    unfolding groups_hold
    holds_broken rows more some room broken = every_fails (free_in_groups reading from to issued) 0 rows (from * 31) (omega arith) fails
      where
        fails : free_in_groups reading from to issued (0 + from * 31) (get_or rows (from * 31) 0) ≡ false
        fails =
            let itself : 0 + from * 31 ≡ from * 31 = omega arith in
            let here : from * 31 / 31 ≡ from = omega arith in
            rw (itself, in_span_lem (from * 31) (omega arith) (omega arith), here, broken) refl

-- ---- readings that agree

-- two readings say the same of each row and make the same of its byte
abbrev pub Agree : Option Reading → Option Reading → Type 0
Agree one other = (row byte : ℕ) → (free_in_reading one row byte ≡ free_in_reading other row byte)
    × ((value : ℕ) → marked_in_reading one value row byte ≡ marked_in_reading other value row byte)

pub agree_same : (one other : Option Reading) → one ≡ other → Agree one other
agree_same one other same row byte = rw same (refl, λ value. refl)

-- the words opened say nothing of a row
pub agree_bits : (one : Option Reading) (bits opened more : ℕ) → one ≡ read_as bits opened → Agree one (read_as bits more)
agree_bits one bits opened more read row byte = rw read (refl, λ value. refl)

module _ (reading other : ℕ → Option Reading) (from to issued : ℕ) (agree : (group : ℕ) → from ≤ group → group < to → Agree (reading group) (other group)) where
  agrees : (row byte : ℕ) → (free_in_groups reading from to issued row byte ≡ free_in_groups other from to issued row byte)
      × ((value : ℕ) → marked_in_groups reading from to issued value row byte ≡ marked_in_groups other from to issued value row byte)
  agrees row byte = go (leb from (row / 31)) (ltb (row / 31) to) refl refl
    where
      go : (s t : Bool) → leb from (row / 31) ≡ s → ltb (row / 31) to ≡ t
          → (free_in_groups reading from to issued row byte ≡ free_in_groups other from to issued row byte)
          × ((value : ℕ) → marked_in_groups reading from to issued value row byte ≡ marked_in_groups other from to issued value row byte)
      go true true d e =
          let same = agree (row / 31) (leb-true from (row / 31) d) (ltb-true (row / 31) to e) row byte in
          (rw same.0 refl, λ value. rw (same.1 value) refl)
      go true false d e = rw (d, e) (refl, λ value. refl)
      go false t d e = rw d (refl, λ value. refl)

  -- THEOREM: where two readings agree in each group of a span, the span's rows are told and marked alike
  pub holds_agree : (rows : List ℕ) → groups_hold reading from to issued rows ≡ groups_hold other from to issued rows
  unfolding groups_hold
  holds_agree rows =
      every_agrees (free_in_groups reading from to issued) (free_in_groups other from to issued) 0 0 rows (λ i byte h. (agrees (0 + i) byte).0)

  pub marked_agree : (value : ℕ) (rows : List ℕ) → groups_marked reading from to issued value rows ≡ groups_marked other from to issued value rows
  unfolding groups_marked
  marked_agree value rows =
      each_agrees (marked_in_groups reading from to issued value) (marked_in_groups other from to issued value) 0 0 rows
      (λ i byte h. (agrees (0 + i) byte).1 value)

-- ---- groups that all have the same bits: the bytes of their rows stand in the middle

module _ (bits from to issued : ℕ) where
  module _ (front middle back : List ℕ) (starts : length front ≡ from * 31) (stops : min (to * 31) issued ≤ length front + length middle) where
    holds_middle : (test : ℕ → ℕ → Bool)
        → ((i byte : ℕ) → i < length middle → free_in_groups (alike bits) from to issued (0 + length front + i) byte ≡ test (0 + i) byte)
        → every_row test 0 middle ≡ groups_hold (alike bits) from to issued (front ++ (middle ++ back))
    unfolding groups_hold
    holds_middle test agree =
        let told = free_in_groups (alike bits) from to issued in
        let before : every_row told 0 front ≡ true =
        each_every told 0 front (λ i h. rw (before-span (alike bits) issued from to (0 + i) (omega arith)) refl) in
        let behind : every_row told (0 + length front + length middle) back ≡ true =
        each_every told (0 + length front + length middle) back
        (λ i h. rw (behind-span (alike bits) issued from to (0 + length front + length middle + i) (omega arith)) refl) in
        let among : every_row told (0 + length front) middle ≡ every_row test 0 middle = every_agrees told test (0 + length front) 0 middle agree in
        rw (every_append told 0 front, every_append told (0 + length front) middle, before, behind, among, and-true) refl

    marked_middle : (value : ℕ) (change : ℕ → ℕ → ℕ)
        → ((i byte : ℕ) → i < length middle → marked_in_groups (alike bits) from to issued value (0 + length front + i) byte ≡ change (0 + i) byte)
        → front ++ (each_row change 0 middle ++ back) ≡ groups_marked (alike bits) from to issued value (front ++ (middle ++ back))
    unfolding groups_marked
    marked_middle value change agree =
        let marks = marked_in_groups (alike bits) from to issued value in
        let before : each_row marks 0 front ≡ front =
        each_keeps marks 0 front (λ i byte h. rw (before-span (alike bits) issued from to (0 + i) (omega arith)) refl) in
        let behind : each_row marks (0 + length front + length middle) back ≡ back =
        each_keeps marks (0 + length front + length middle) back
        (λ i byte h. rw (behind-span (alike bits) issued from to (0 + length front + length middle + i) (omega arith)) refl) in
        let among : each_row marks (0 + length front) middle ≡ each_row change 0 middle = each_agrees marks change (0 + length front) 0 middle agree in
        rw (each_append marks 0 front, each_append marks (0 + length front) middle, before, behind, among) refl

  -- a part of all bytes that the code lends
  module _ (rows : List ℕ) (end : ℕ) (long : from * 31 ≤ end) (room : end ≤ length rows) where
    starts : length (take (from * 31) rows) ≡ from * 31
    starts = length-take-le (from * 31) rows (omega arith)

    part_length : length (mid_of (from * 31) (end - from * 31) rows) ≡ end - from * 31
    part_length = mid_len (from * 31) end rows room

    abbrev front : List ℕ
    front = take (from * 31) rows

    abbrev middle : List ℕ
    middle = mid_of (from * 31) (end - from * 31) rows

    abbrev back : List ℕ
    back = post_of (from * 31) (end - from * 31) rows

    -- the row of a byte of the part
    row_of : (i : ℕ) → 0 + length front + i ≡ from * 31 + i
    row_of i = omega (arith, starts)

    -- the part has just the rows of the groups
    module _ (e : end ≡ min (to * 31) issued) where
      here : (i : ℕ) → i < length middle → (in_span from to issued (0 + length front + i) ≡ true) × ((0 + length front + i) % 31 ≡ i % 31)
      here i h =
          rw (row_of i) (in_span_lem (alike bits) issued from to (from * 31 + i) (omega arith) (omega (arith, part_length)), omega arith)

      pub holds_part : every_row (free_in_group bits) 0 middle ≡ groups_hold (alike bits) from to issued rows
      holds_part =
          holds_middle front middle back starts (omega (arith, starts, part_length)) (free_in_group bits)
          (λ i byte h. rw ((here i h).0, (here i h).1, zero-add) refl)
          ∙ ap (groups_hold (alike bits) from to issued) (put_same (from * 31) (end - from * 31) rows)

      pub marked_part : (value : ℕ)
          → put_mid (from * 31) (end - from * 31) rows (each_row (marked_in_group bits value) 0 middle) ≡ groups_marked (alike bits) from to issued value rows
      marked_part value =
          marked_middle front middle back starts (omega (arith, starts, part_length)) value (marked_in_group bits value)
          (λ i byte h. rw ((here i h).0, (here i h).1, zero-add) refl)
          ∙ ap (groups_marked (alike bits) from to issued value) (put_same (from * 31) (end - from * 31) rows)

      -- what is said of the part, and left in it, is what the groups say and leave
      pub told_part : (value : ℕ) {told : Bool} {next : List ℕ}
          → (told ≡ every_row (free_in_group bits) 0 middle) × (told ≡ true → next ≡ each_row (marked_in_group bits value) 0 middle)
          → (told ≡ groups_hold (alike bits) from to issued rows)
          × (told ≡ true → put_mid (from * 31) (end - from * 31) rows next ≡ groups_marked (alike bits) from to issued value rows)
      told_part value marks = (marks.0 ∙ holds_part, λ held. rw (marks.1 held) (marked_part value))
