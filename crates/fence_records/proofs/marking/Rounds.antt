-- One round of Dump's loops: what the next fence and the next value ask, and what is marked so far. Assumes nothing.
use mathlib.Core.Path.{◌≡◌, refl, sym, ap, ◌∙◌}
use mathlib.Core.Bool.{Bool, true, false}
use mathlib.Core.List.{List}
use Prim.Native.Nat.{ℕ, ◌+◌, ◌-◌, ◌*◌, ◌<◌, ◌≤◌}
use native.Mathlib.Nat.{div-mul-le_self}
use native.Mathlib.Omega.{arith}
use lib.ListN.{length, get_or, take, drop}
use Rattle.groups.specs.Rows.{row_limit, groups_for}
use Rattle.blocks.specs.Sizes.{block_size, fences_for, fence_count}
use Rattle.blocks.specs.Inner.{Limits}
use Rattle.blocks.specs.Block.{part}
use Rattle.blocks.proofs.Parts.{part_slice, length_part, get_d_part}
use Rattle.memory.specs.Inner.{Planned}
use Rattle.dump_spans.specs.Inner.{fence_holds, fence_marked, fence_number, fences_hold, marked_fences, values_hold, marked_values}
use Rattle.memory.specs.Fences.{no_fence}
use Rattle.memory.specs.Memory.{Memory, memory_of, sizes_of, block_at}
use Rattle.memory.specs.declared.header.Header.{Header}
use Rattle.block_read.specs.declared.fence.Fence.{Fence}
use Rattle.blocks.specs.declared.sizes.Sizes.{Sizes}
use Rattle.fence_records.proofs.Visits.{next_fence_holds, next_fence_marked, fences_stop, next-value_holds, next-value_marked, values_stop}
use Rattle.std.proofs.lemmas.Nat.{le-div}
use Rattle.memory.proofs.Places.{numbers, fenced}

not_true : {P : Type 0} → false ≡ true → P
not_true e = absurd (let z : ◌≡◌ {A = ℕ} 0 1 = cc in omega arith)

-- the first j fences of a value are visited, and no row is damaged
pub record FencesSeen (header : Header) (memory : Memory) (value : ℕ) (rows : List ℕ) (j : ℕ) (now : List ℕ) : Type 0 where
  pub hold : fences_hold header memory value rows j ≡ true
  pub marked : now ≡ marked_fences header memory value rows j

-- the first values are visited, and no row is damaged
pub record ValuesSeen (header : Header) (memory : Memory) (rows : List ℕ) (value : ℕ) (now : List ℕ) : Type 0 where
  pub hold : values_hold header memory rows value ≡ true
  pub marked : now ≡ marked_values header memory rows value

module _ {header : Header} {sizes : Sizes} (words : List ℕ) (fences : List Fence) (is : Planned header sizes (length words) (length fences)) where
  abbrev memory : Memory
  memory = memory_of words fences

  -- how many fences there are to visit
  abbrev count : ℕ
  count = fences_for (groups_for header.issued) header.spacing

  pub count_asks : (header.issued ≤ row_limit) × (1 ≤ header.spacing) × (header.spacing ≤ 256)
  count_asks = (omega (arith, (numbers is).few_issued, (numbers is).few_rows), (numbers is).some_spacing, (numbers is).few_spacing)

  -- a value has no fewer: the rows issued are no more than all
  few_visits : count ≤ fence_count sizes
  unfolding fences_for
  few_visits =
      let more = header.spacing - 1 in
      rw is.planned
      (le-div count (groups_for header.rows + more) header.spacing (numbers is).some_spacing
      (omega (arith, div-mul-le_self (groups_for header.issued + more) header.spacing, (numbers is).few_issued)))

  -- ---- the fences of a value

  module _ (value : ℕ) (below : value < header.values) (rows : List ℕ) (room : header.issued ≤ length rows) where
    pub none_visited : FencesSeen header memory value rows 0 rows
    none_visited = record { hold = refl; marked = refl }

    module _ (visits : ℕ) (are : (visits ≡ count) × (visits ≤ 4096)) {each : ℕ} (counted : each ≡ fence_count sizes) where
      -- the records of the fences to visit, a part of those lent
      abbrev at : ℕ
      at = value * each

      abbrev visited : List Fence
      visited = take (at + visits - at) (drop at fences)

      pub visits_fit : at + visits ≤ length fences
      visits_fit =
          let place : at ≡ value * fence_count sizes = ap (◌*◌ value) counted in
          omega (arith, (fenced is value below).room, place, few_visits, are.0)

      visited_part : visited ≡ part fences at visits
      visited_part = part_slice fences at visits at (at + visits) refl (omega arith)

      visited_long : length visited ≡ visits
      visited_long = rw visited_part (length_part fences at visits visits_fit)

      module _ (j : ℕ) (inside : j < length visited) (now : List ℕ) (many : length now ≡ length rows) where
        less : j < visits
        less = omega (arith, visited_long)

        pub fence_asks : Limits sizes × (value * block_size sizes + block_size sizes ≤ length words) × (value < 256) × (header.issued ≤ sizes.rows) × (header.issued ≤ length now)
            × (j < fences_for (groups_for header.issued) sizes.spacing)
        fence_asks = (
          (fenced is value below).limits,
          (fenced is value below).inside,
          omega (arith, below, (numbers is).few_values),
          rw is.planned (numbers is).few_issued,
          rw many room,
          rw is.planned (omega (arith, less, are.0)),
        )

        module _ (seen : FencesSeen header memory value rows j now) (fine : Bool) (left : List ℕ)
            (marks : (fine ≡ fence_holds sizes (get_or visited j no_fence) (block_at sizes words value) header.issued j now)
            × (fine ≡ true
            → left ≡ fence_marked sizes (get_or visited j no_fence) (block_at sizes words value) header.issued j value now)) where
          abbrev fence : Fence
          fence = get_or visited j no_fence

          found : fence ≡ fence_number (sizes_of header) memory value j
          found = rw (visited_part, get_d_part fences at visits j no_fence less, counted) (rw is.planned refl)

          next : fences_hold header memory value rows (j + 1) ≡ fine
          next =
              next_fence_holds header memory value rows sizes is.planned fence j found now seen.marked seen.hold fine marks.0

          pub fence_seen : fine ≡ true → FencesSeen header memory value rows (j + 1) left
          fence_seen holds =
              record {
                hold = next ∙ holds;
                marked = next_fence_marked header memory value rows sizes is.planned fence j found now seen.marked left (marks.1 holds);
              }

          pub fence_damaged : fine ≡ false
              → (false ≡ fences_hold header memory value rows count) × (false ≡ true → left ≡ marked_fences header memory value rows count)
          fence_damaged fails = (
            sym
                (fences_stop header memory value rows (j + 1) count (omega (arith, less, are.0)) (next ∙ fails)),
            not_true,
          )

      pub all_visited : (j : ℕ) → j ≤ length visited → length visited ≤ j → (now : List ℕ) → FencesSeen header memory value rows j now
          → (true ≡ fences_hold header memory value rows count) × (true ≡ true → now ≡ marked_fences header memory value rows count)
      all_visited j up all now seen =
          let last : j ≡ visits = omega (arith, visited_long, up, all) in
          rw (← are.0, ← last) (sym seen.hold, λ e. seen.marked)

  -- ---- the values

  module _ (rows : List ℕ) (room : header.issued ≤ length rows) where
    pub none_seen : ValuesSeen header memory rows 0 rows
    none_seen = record { hold = refl; marked = refl }

    module _ (value : ℕ) (less : value < header.values) (now : List ℕ) (many : length now ≡ length rows) where
      pub value_asks : Planned header sizes (length words) (length fences) × (value < header.values) × (header.issued ≤ length now)
      value_asks = (is, less, rw many room)

      module _ (seen : ValuesSeen header memory rows value now) (fine : Bool) (left : List ℕ)
          (marks : (fine ≡ fences_hold header memory value now count) × (fine ≡ true → left ≡ marked_fences header memory value now count)) where
        next-value : values_hold header memory rows (value + 1) ≡ fine
        next-value = next-value_holds header memory rows now value seen.marked seen.hold fine marks.0

        pub value_seen : fine ≡ true → ValuesSeen header memory rows (value + 1) left
        value_seen holds =
            record {
              hold = next-value ∙ holds;
              marked = next-value_marked header memory rows now value seen.marked left (marks.1 holds);
            }

        pub value_damaged : fine ≡ false
            → (false ≡ values_hold header memory rows header.values) × (false ≡ true → left ≡ marked_values header memory rows header.values)
        value_damaged fails =
            (sym (values_stop header memory rows (value + 1) header.values (omega (arith, less)) (next-value ∙ fails)), not_true)

    pub all_seen : (value : ℕ) → value ≡ header.values → (now : List ℕ) → ValuesSeen header memory rows value now
        → (true ≡ values_hold header memory rows header.values) × (true ≡ true → now ≡ marked_values header memory rows header.values)
    all_seen value all now seen = (
      sym seen.hold ∙ ap (values_hold header memory rows) all,
      λ e. seen.marked ∙ ap (marked_values header memory rows) all,
    )
