-- The rows of one group are marked, that of its highest bit first. Assumes nothing.
use mathlib.Core.Path.{◌≡◌, refl, ◌∙◌, sym}
use mathlib.Core.Bool.{Bool, true, false, false≢true}
use mathlib.Core.List.{List}
use Prim.Native.Nat.{ℕ, ◌-◌, ◌<◌, ◌≤◌}
use native.Mathlib.Nat.{zero-add, zero-div}
use native.Mathlib.Omega.{arith}
use lib.Dec.{eqb}
use lib.ListN.{length, get_or, set, length-set}
use lib.Seq.{ext_get_or, get_or-set_same, get_or-set_other}
use borrow.Author.Tests.{eq-eqb, ne_eqb, eqb-true, eqb-false}
use Rattle.dump_marks.specs.Inner.{each_row, every_row, free_in_group, marked_in_group}
use Rattle.dump_marks.proofs.EachRow.{length_each, get_or_each, each_every, every_fails}
use Rattle.dump_marks.proofs.marking.HighestBit.{bit, Top, lower, other_row, row_gone, row-set, row_before}

-- rows whose bit is not in `rest` are done; the others are in the group, and as they were
pub record Marking (rows₀ rows : List ℕ) (group value rest : ℕ) : Type 0 where
  pub same : length rows ≡ length rows₀
  pub few : length rows₀ ≤ 31
  pub small : rest < 0x80000000
  pub done : (i : ℕ) → i < length rows₀ → bit rest i ≡ 0
      → (get_or rows i 0 ≡ marked_in_group group value i (get_or rows₀ i 0)) × (free_in_group group i (get_or rows₀ i 0) ≡ true)
  pub left : (i : ℕ) → i < length rows₀ → (bit rest i ≡ 0 → ⊥) → (get_or rows i 0 ≡ get_or rows₀ i 0) × (bit group i ≡ 0 → ⊥)

-- what marking a group answers and leaves
abbrev pub Marked : List ℕ → List ℕ → ℕ → ℕ → Bool → Type 0
Marked rows₀ rows group value r = (r ≡ every_row (free_in_group group) 0 rows₀) × (r ≡ true → rows ≡ each_row (marked_in_group group value) 0 rows₀)

pub begin : (rows : List ℕ) (group value : ℕ) → length rows ≤ 31 → group < 0x80000000 → Marking rows rows group value group
begin rows group value few small =
    record {
      same = refl;
      few = few;
      small = small;
      done = λ i h clear. rw (eq-eqb (bit group i) 0 clear) (refl, refl);
      left = λ i h set. (refl, set);
    }

module _ {rows₀ rows : List ℕ} {group value rest : ℕ} (m : Marking rows₀ rows group value rest) where
  -- no row has a bit left
  all_done : ((i : ℕ) → i < length rows₀ → bit rest i ≡ 0) → Marked rows₀ rows group value true
  all_done clear = (
    sym (each_every (free_in_group group) 0 rows₀ (λ i h. rw zero-add (m.done i h (clear i h)).1)),
    λ yes. ext_get_or 0 rows (each_row (marked_in_group group value) 0 rows₀) (m.same ∙ sym (length_each (marked_in_group group value) 0 rows₀))
        (λ i h. let inside : i < length rows₀ = omega (arith, m.same) in
        (m.done i inside (clear i inside)).0 ∙ sym (get_or_each (marked_in_group group value) 0 rows₀ i 0 inside ∙ rw zero-add refl)),
  )

  pub ends : rest ≡ 0 → Marked rows₀ rows group value true
  ends none = all_done (λ i h. rw (none, zero-div) refl)

  module _ (zeros : ℕ) (t : Top rest zeros) where
    -- the next row is behind the last one
    pub behind : length rows ≤ zeros - 1 → Marked rows₀ rows group value true
    behind h = all_done (λ i inside. row_before rest zeros t i (omega (arith, m.same)))

    module _ (inside : zeros - 1 < length rows) where
      set₀ : (get_or rows (zeros - 1) 0 ≡ get_or rows₀ (zeros - 1) 0) × (bit group (zeros - 1) ≡ 0 → ⊥)
      set₀ = m.left (zeros - 1) (omega (arith, m.same)) (row-set rest zeros t)

      -- it is in another value
      pub taken : (get_or rows (zeros - 1) 0 ≡ 255 → ⊥) → Marked rows₀ rows group value false
      taken other = (
        sym (every_fails (free_in_group group) 0 rows₀ (zeros - 1) (omega (arith, m.same))
            (rw (zero-add, ne_eqb (bit group (zeros - 1)) 0 set₀.1, ne_eqb (get_or rows₀ (zeros - 1) 0) 255 (λ e. other (set₀.0 ∙ e))) refl)),
        λ no. absurd (false≢true no),
      )

      -- or it is marked
      module _ (free : get_or rows (zeros - 1) 0 ≡ 255) where
        next-done : (i : ℕ) → i < length rows₀ → bit (lower rest zeros t) i ≡ 0
            → (get_or (set rows (zeros - 1) value) i 0 ≡ marked_in_group group value i (get_or rows₀ i 0)) × (free_in_group group i (get_or rows₀ i 0) ≡ true)
        next-done i h clear = go (eqb i (zeros - 1)) refl
          where
            go : (b : Bool) → eqb i (zeros - 1) ≡ b
                → (get_or (set rows (zeros - 1) value) i 0 ≡ marked_in_group group value i (get_or rows₀ i 0)) × (free_in_group group i (get_or rows₀ i 0) ≡ true)
            go true e =
                rw (eqb-true i (zeros - 1) e, ne_eqb (bit group (zeros - 1)) 0 set₀.1, ← set₀.0, free)
                (get_or-set_same rows (zeros - 1) value 0 inside, refl)
            go false e =
                let other = eqb-false i (zeros - 1) e in
                let was = m.done i h (sym (other_row rest zeros t i (omega (arith, m.few)) other) ∙ clear) in
                (get_or-set_other rows (zeros - 1) i value 0 other ∙ was.0, was.1)

        next_left : (i : ℕ) → i < length rows₀ → (bit (lower rest zeros t) i ≡ 0 → ⊥)
            → (get_or (set rows (zeros - 1) value) i 0 ≡ get_or rows₀ i 0) × (bit group i ≡ 0 → ⊥)
        next_left i h some =
            let other : (i ≡ zeros - 1 → ⊥) = λ e. some (rw e (row_gone rest zeros t)) in
            let was = m.left i h (λ e. some (other_row rest zeros t i (omega (arith, m.few)) other ∙ e)) in
            (get_or-set_other rows (zeros - 1) i value 0 other ∙ was.0, was.1)

        pub next_row : Marking rows₀ (set rows (zeros - 1) value) group value (lower rest zeros t)
        next_row =
            record {
              same = length-set rows (zeros - 1) value ∙ m.same;
              few = m.few;
              small = omega (arith, m.small);
              done = next-done;
              left = next_left;
            }
