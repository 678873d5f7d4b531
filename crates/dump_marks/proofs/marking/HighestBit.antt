-- The highest bit of a group: its row, and the group without it. Assumes nothing.
use mathlib.Core.Path.{◌≡◌, refl, ◌∙◌, ap, sym}
use mathlib.Core.Bool.{Bool, true, false}
use Prim.Native.Nat.{ℕ, suc, ◌+◌, ◌*◌, ◌-◌, ◌/◌, ◌%◌, ◌^◌, ◌<◌, ◌≤◌}
use native.Mathlib.Nat.{mod-eq_of_lt, div-eq_of_lt, pow-suc}
use native.Mathlib.Omega.{arith}
use lib.Count.{count_leading_zeros, leading_top}
use lib.Dec.{ltb}
use lib.Pow.{pow-add, pow_pos, pow_mono, shl-shr, low, high}
use borrow.Author.Tests.{ltb-true, ltb-false}
use Rattle.groups.proofs.Group.{bit_below}

-- a row's bit of its group
abbrev pub bit : ℕ → ℕ → ℕ
bit group row = group / 2 ^ (30 - row % 31) % 2

-- the mask of a row
pub row_mask : (row : ℕ) → row ≤ 30 → 0x40000000 / 2 ^ row ≡ 2 ^ (30 - row)
row_mask row h =
    let all : 30 - row + row ≡ 30 = omega arith in
    ap (λ (n : ℕ). 2 ^ n / 2 ^ row) (sym all) ∙ rw pow-add (shl-shr (2 ^ (30 - row)) row)

-- the highest bit's place, and how many zeros a word of 32 bits has above it
pub record Top (rest zeros : ℕ) : Type 0 where
  pub place : ℕ
  pub placed : zeros + place ≡ 31
  pub few : place ≤ 30
  pub under : 2 ^ place ≤ rest
  pub over : rest < 2 ^ suc place

pub top : (rest : ℕ) → (rest ≡ 0 → ⊥) → rest < 0x80000000 → Top rest (count_leading_zeros 32 rest)
top rest some small =
    let found = leading_top 32 rest (omega (arith, some)) (omega arith) in
    record {
      place = found.0;
      placed = omega (arith, found.1);
      few = low_place found.0 found.2;
      under = found.2;
      over = found.3;
    }
  where
    low_place : (place : ℕ) → 2 ^ place ≤ rest → place ≤ 30
    low_place place under = go (ltb 30 place) refl
      where
        go : (t : Bool) → ltb 30 place ≡ t → place ≤ 30
        go true e = let higher : 2 ^ 31 ≤ 2 ^ place = pow_mono {i = 31} {j = place} (omega (arith, ltb-true 30 place e)) in absurd (omega arith)
        go false e = ltb-false 30 place e

module _ (rest zeros : ℕ) (t : Top rest zeros) where
  -- what the group is without it
  abbrev pub lower : ℕ
  lower = rest - 2 ^ t.place

  lower-small : lower < 2 ^ t.place
  lower-small = omega (arith, t.under, t.over, pow-suc 2 t.place)

  pub shrinks : lower < rest
  shrinks = omega (arith, t.under, pow_pos t.place)

  whole : rest ≡ 1 * 2 ^ t.place + lower
  whole = omega (arith, t.under)

  -- the bits of other places stay, and the highest one is gone
  other_place : (place : ℕ) → (place ≡ t.place → ⊥) → lower / 2 ^ place % 2 ≡ rest / 2 ^ place % 2
  other_place place other = go (ltb place t.place) refl
    where
      go : (b : Bool) → ltb place t.place ≡ b → lower / 2 ^ place % 2 ≡ rest / 2 ^ place % 2
      go true e =
          let rests : rest % 2 ^ t.place ≡ lower = ap (λ (n : ℕ). n % 2 ^ t.place) whole ∙ low 1 t.place lower-small in
          sym (bit_below rest t.place place (ltb-true place t.place e) ∙ ap (λ (n : ℕ). n / 2 ^ place % 2) rests)
      go false e =
          let up : 2 ^ suc t.place ≤ 2 ^ place = pow_mono (omega (arith, ltb-false place t.place e, other)) in
          let above : rest < 2 ^ place = omega (arith, t.over) in
          let lower-above : lower < 2 ^ place = omega arith in
          rw (div-eq_of_lt above, div-eq_of_lt lower-above) refl

  top_gone : lower / 2 ^ t.place % 2 ≡ 0
  top_gone = rw (div-eq_of_lt lower-small) refl

  top_set : rest / 2 ^ t.place % 2 ≡ 1
  top_set = ap (λ (n : ℕ). n / 2 ^ t.place % 2) whole ∙ rw (high 1 t.place lower-small) refl

  -- the same of rows
  pub other_row : (row : ℕ) → row < 31 → (row ≡ zeros - 1 → ⊥) → bit lower row ≡ bit rest row
  other_row row h other = rw (mod-eq_of_lt h) (other_place (30 - row) (λ e. other (omega (arith, t.placed))))

  pub row_gone : bit lower (zeros - 1) ≡ 0
  row_gone = let place : 30 - (zeros - 1) % 31 ≡ t.place = omega (arith, t.placed, t.few) in rw place top_gone

  pub row-set : bit rest (zeros - 1) ≡ 0 → ⊥
  row-set e = let place : 30 - (zeros - 1) % 31 ≡ t.place = omega (arith, t.placed, t.few) in omega (arith, rw place at e, top_set)

  -- no row before it has a bit
  pub row_before : (row : ℕ) → row < zeros - 1 → bit rest row ≡ 0
  row_before row h =
      let up : 2 ^ suc t.place ≤ 2 ^ (30 - row % 31) = pow_mono (omega (arith, t.placed)) in
      let above : rest < 2 ^ (30 - row % 31) = omega (arith, t.over) in
      rw (div-eq_of_lt above) refl

  -- the mask that the code takes away
  pub mask : 0x40000000 / 2 ^ (zeros - 1) ≡ 2 ^ t.place
  mask =
      let place : 30 - (zeros - 1) ≡ t.place = omega (arith, t.placed, t.few) in
      row_mask (zeros - 1) (omega (arith, t.placed)) ∙ ap (λ (n : ℕ). 2 ^ n) place
