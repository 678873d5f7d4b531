-- The loop over rows one by one: those before the next one are told and changed. Assumes nothing.
use mathlib.Core.Path.{◌≡◌, refl, ◌∙◌, sym}
use mathlib.Core.Bool.{Bool, true, false, ◌&&◌, and_assoc, and-true}
use mathlib.Core.List.{List}
use Prim.Native.Nat.{ℕ, ◌+◌, ◌<◌, ◌≤◌}
use native.Mathlib.Nat.{zero-add}
use native.Mathlib.Numerals.{add-one}
use native.Mathlib.Omega.{arith}
use lib.Bits.{bit_and, and_le_l, and_le_r}
use lib.Dec.{eqb}
use lib.ListN.{length, get_or, set, drop, length-set, drop_of_length-le}
use lib.Seq.{drop-cons, ext_get_or, get_or-set_same, get_or-set_other}
use borrow.Author.Tests.{ne_eqb, eqb-true, eqb-false}
use Rattle.dump_marks.specs.Inner.{each_row, every_row}
use Rattle.dump_marks.proofs.EachRow.{length_each, get_or_each}

-- the bits that two bytes share are all eight where both are 255
both_free : (x y : ℕ) → x ≤ 255 → y ≤ 255 → eqb (bit_and x y) 255 ≡ eqb x 255 && eqb y 255
both_free x y p q = go (eqb x 255) (eqb y 255) refl refl
  where
    go : (s t : Bool) → eqb x 255 ≡ s → eqb y 255 ≡ t → eqb (bit_and x y) 255 ≡ s && t
    go true true d e = rw (eqb-true x 255 d, eqb-true y 255 e) refl
    go true false d e = ne_eqb (bit_and x y) 255 (λ z. eqb-false y 255 e (omega (arith, and_le_r x y)))
    go false t d e = ne_eqb (bit_and x y) 255 (λ z. eqb-false x 255 d (omega (arith, and_le_l x y)))

module _ (test : ℕ → ℕ → Bool) (change : ℕ → ℕ → ℕ) where
  -- `free` is 255 where the test held of all rows before `row`, which are changed; the others are as they were
  pub record Passing (rows₀ rows : List ℕ) (free row : ℕ) : Type 0 where
    pub up : row ≤ length rows₀
    pub same : length rows ≡ length rows₀
    pub small : free ≤ 255
    pub held : every_row test 0 rows₀ ≡ eqb free 255 && every_row test row (drop row rows₀)
    pub done : (i : ℕ) → i < row → get_or rows i 0 ≡ change i (get_or rows₀ i 0)
    pub left : (i : ℕ) → row ≤ i → get_or rows i 0 ≡ get_or rows₀ i 0

  pub begin : (rows : List ℕ) → Passing rows rows 255 0
  begin rows =
      record {
        up = omega arith;
        same = refl;
        small = omega arith;
        held = refl;
        done = λ i h. absurd (omega arith);
        left = λ i h. refl;
      }

  module _ {rows₀ rows : List ℕ} {free row : ℕ} (p : Passing rows₀ rows free row) where
    none_left : length rows ≤ row → length rows₀ ≤ row
    none_left h = omega (arith, p.same)

    pub ends : length rows ≤ row → (eqb free 255 ≡ every_row test 0 rows₀) × (rows ≡ each_row change 0 rows₀)
    ends h = (
      sym (p.held ∙ rw (drop_of_length-le rows₀ (none_left h), and-true) refl),
      ext_get_or 0 rows (each_row change 0 rows₀) (p.same ∙ sym (length_each change 0 rows₀))
          (λ i inside. p.done i (omega arith) ∙ sym (get_or_each change 0 rows₀ i 0 (omega (arith, p.same)) ∙ rw zero-add refl)),
    )

    -- the next row: `seen` is 255 where the test holds of it
    module _ (inside : row < length rows) (seen new : ℕ) (low : seen ≤ 255)
        (told : eqb seen 255 ≡ test row (get_or rows₀ row 0)) (changed : new ≡ change row (get_or rows₀ row 0)) where
      next-done : (i : ℕ) → i < row + 1 → get_or (set rows row new) i 0 ≡ change i (get_or rows₀ i 0)
      next-done i h = go (eqb i row) refl
        where
          go : (t : Bool) → eqb i row ≡ t → get_or (set rows row new) i 0 ≡ change i (get_or rows₀ i 0)
          go true e = rw (eqb-true i row e) (get_or-set_same rows row new 0 inside ∙ changed)
          go false e =
              let other = eqb-false i row e in
              get_or-set_other rows row i new 0 other ∙ p.done i (omega (arith, other))

      pub next_row : Passing rows₀ (set rows row new) (bit_and free seen) (row + 1)
      next_row =
          let within : row < length rows₀ = omega (arith, p.same) in
          record {
            up = omega arith;
            same = length-set rows row new ∙ p.same;
            small = omega (arith, and_le_l free seen, p.small);
            held = p.held ∙ rw (add-one, both_free free seen p.small low, told, drop-cons rows₀ row 0 within, and_assoc) refl;
            done = next-done;
            left = λ i h. get_or-set_other rows row i new 0 (λ e. omega arith) ∙ p.left i (omega arith);
          }
