-- At most 31 rows are gathered into a group for each value, the first row first. Assumes nothing.
use Rattle.std.proofs.Common.{◌≡◌, ℕ, zero, suc, ◌+◌, ◌-◌, ◌*◌, ◌/◌, ◌^◌, ◌<◌, ◌≤◌, Bool, true, false, cond, eqb, List, [], ◌∷◌, length, get_or, take, set, sym, refl, ◌∙◌, add_assoc, add-one, arith, length-set, get_or-set_other, get_or-set_same, pow_mono, eqb-true}
use native.Mathlib.Nat.{pow-succ'}
use borrow.Author.Tests.{eqb-false}
use Rattle.groups.specs.Rows.{group_of}
use Rattle.groups.proofs.Group.{group_of-nil, group_of-lt}
use Rattle.load_list.specs.Column.{rows_with}
use Rattle.load_list.proofs.listing.Rows.{length-rows_with, get_or-rows_with, rows_with-take, rows_with_bits}

-- one row more in a group
group_of-more : (k i : ℕ) (rows : List ℕ) → i < length rows → i < k
    → group_of k (take (suc i) rows) ≡ group_of k (take i rows) + get_or rows i 0 * 2 ^ (k - suc i)
group_of-more zero i rows h below = absurd (omega arith)
group_of-more (suc k) i [] h below = absurd (omega arith)
group_of-more (suc k) zero (row ∷ rows) h below =
    let here : suc k - suc zero ≡ k = omega arith in
    rw (group_of-nil k, here) (omega arith)
group_of-more (suc k) (suc i) (row ∷ rows) h below =
    let here : suc k - suc (suc i) ≡ k - suc i = omega arith in
    rw (group_of-more k i rows (omega arith) (omega arith), here) (sym (add_assoc (row * 2 ^ k) _ _))

-- the first i rows are gathered, and the mask is that of the row before the next
pub record Gathering (rows groups₀ groups : List ℕ) (mask i : ℕ) : Type 0 where
  pub within : i ≤ length rows
  pub masks : mask ≡ 2 ^ (31 - i)
  pub same : length groups ≡ length groups₀
  pub each : (value : ℕ) → value < length groups₀ → get_or groups value 0 ≡ group_of 31 (rows_with value (take i rows))

pub gather_none : (rows groups : List ℕ) → ((value : ℕ) → get_or groups value 0 ≡ 0) → Gathering rows groups groups 0x80000000 0
gather_none rows groups zeros = record { within = omega arith; masks = refl; same = refl; each = λ value below. zeros value }

module _ {rows groups₀ groups : List ℕ} {mask i : ℕ} (g : Gathering rows groups₀ groups mask i) (few : length rows ≤ 31) (more : i < length rows) where
  half : mask / 2 ≡ 2 ^ (31 - (i + 1))
  half =
      let here : 31 - i ≡ suc (31 - (i + 1)) = omega arith in
      let twice : mask ≡ 2 * 2 ^ (31 - (i + 1)) = g.masks ∙ rw (here, pow-succ') refl in
      omega (arith, twice)

  -- the row's value
  abbrev byte : ℕ
  byte = get_or rows i 0

  pub row_fits : byte < length groups → get_or groups byte 0 + mask / 2 < 2 ^ 32
  row_fits below =
      omega (
        arith,
        half,
        pow_mono {i = 31 - (i + 1)} {j = 30} (omega arith),
        g.each byte (omega (arith, below, g.same)),
        group_of-lt 31 (rows_with byte (take i rows)) (rows_with_bits byte (take i rows)),
      )

  -- a value's group of one row more
  next : (value : ℕ) → group_of 31 (rows_with value (take (i + 1) rows)) ≡ group_of 31 (rows_with value (take i rows)) + cond (eqb byte value) 1 0 * (mask / 2)
  next value =
      let here : 31 - suc i ≡ 31 - (i + 1) = omega arith in
      let all = rows_with value rows in
      rw (rows_with-take, rows_with-take, add-one, half, ← here, ← get_or-rows_with value rows i more)
      (group_of-more 31 i all (rw length-rows_with more) (omega arith))

  pub gather_more : Gathering rows groups₀ (set groups byte (get_or groups byte 0 + mask / 2)) (mask / 2) (i + 1)
  gather_more =
      record {
        within = omega arith;
        masks = half;
        same = length-set groups byte (get_or groups byte 0 + mask / 2) ∙ g.same;
        each = λ value below. go value below (eqb byte value) refl;
      }
    where
      go : (value : ℕ) → value < length groups₀ → (held : Bool) → eqb byte value ≡ held
          → get_or (set groups byte (get_or groups byte 0 + mask / 2)) value 0 ≡ group_of 31 (rows_with value (take (i + 1) rows))
      go value below true e =
          let is : byte ≡ value = eqb-true byte value e in
          rw (next value, e, is, get_or-set_same groups value (get_or groups value 0 + mask / 2) 0 (omega (arith, below, g.same)), g.each value below)
          (omega arith)
      go value below false e =
          rw (
            next value,
            e,
            get_or-set_other groups byte value (get_or groups byte 0 + mask / 2) 0 (λ is. eqb-false byte value e (sym is)),
            g.each value below,
          )
          (omega arith)
