-- One group: its bits, the bit under a mask, and the group of some rows. Assumes nothing.
use mathlib.Core.Path.{◌≡◌, refl, ◌∙◌, ap, sym}
use mathlib.Core.Bool.{Bool, true, false, not, ◌&&◌}
use mathlib.Core.Logic.{by_cases}
use mathlib.Core.List.{List, [], ◌∷◌, ◌++◌}
use Prim.Native.Nat.{ℕ, zero, suc, min, ◌+◌, ◌*◌, ◌-◌, ◌/◌, ◌%◌, ◌^◌, ◌<◌, ◌≤◌}
use native.Mathlib.Decide.{dec_lt}
use native.Mathlib.Omega.{arith}
use native.Mathlib.Nat.{zero-add, zero-mul, sub-zero, zero-sub, suc-sub-suc, zero-div, mod-one, mod-eq_of_lt, le-mul_of_pos_right, pow-suc, pow-succ', div_self, div-eq_of_lt, mul-mod_left}
use native.Mathlib.Numerals.{add-one, one-add}
use lib.Arith.{digits_lt}
use lib.Bits.{bit_and, and_high}
use lib.Dec.{eqb, eqb-suc-zero}
use lib.ListN.{length, get_or, take, drop, set}
use lib.Pow.{pow-add, pow_pos, pow-lt, shl-shr, mod-pow-add, mod-mod-pow, field, high, low}
use lib.Seq.{take-nil, paste-suc}
use mir.Val.{bool_byte}
use borrow.Author.Tests.{lt-ltb, eqb-true, eqb-false, ne_eqb}
use Rattle.groups.specs.Rows.{are_bits, group_of, bits_of, all_zero}
use Rattle.groups.proofs.Bits.{first_bit, other_bits}

-- ---- one bit of a number

-- bit i of 2 to the i is 1, and every other bit is 0
pub power_bit : (i : ℕ) → 2 ^ i / 2 ^ i % 2 ≡ 1
power_bit i = rw (div_self (pow_pos i)) refl

pub power_other : (i j : ℕ) → (i ≡ j → ⊥) → 2 ^ i / 2 ^ j % 2 ≡ 0
power_other i j e =
    by_cases (dec_lt i j)
    (λ below. rw (div-eq_of_lt (pow-lt below)) refl)
    (λ above.
    let split : i ≡ suc (i - suc j) + j = omega arith in
    rw (split, pow-add, shl-shr, pow-suc) (mul-mod_left (2 ^ (i - suc j)) 2))

-- bit k, and what lies below it
pub bit_above : (n k : ℕ) → n % 2 ^ suc k ≡ n / 2 ^ k % 2 * 2 ^ k + n % 2 ^ k
bit_above n k = rw (← one-add k) (mod-pow-add n 1 k)

-- a bit below bit k is that of the remainder
pub bit_below : (n k i : ℕ) → i < k → n / 2 ^ i % 2 ≡ n % 2 ^ k / 2 ^ i % 2
bit_below n k i h =
    rw split (sym (field n 1 i) ∙ ap (λ (m : ℕ). m / 2 ^ i) (sym (mod-mod-pow n (k - suc i) (1 + i))) ∙ field (n % 2 ^ (k - suc i + (1 + i))) 1 i)
  where
    split : k ≡ k - suc i + (1 + i)
    split = omega arith

no_bit : (bit power below : ℕ) → 0 < power → bit * power + below ≡ 0 → bit ≡ 0
no_bit bit power below h e = omega (arith, le-mul_of_pos_right bit h)

-- what the code's test of a group under a mask says
module _ (group k : ℕ) where
  and-bit : bit_and group (2 ^ k) ≡ group / 2 ^ k % 2 * 2 ^ k
  and-bit = ap (bit_and group) single ∙ and_high group 1 k
    where
      single : 2 ^ k ≡ 2 ^ (1 + k) - 2 ^ k
      single = omega (arith, pow-add 2 1 k)

  pub mask_clear : bit_and group (2 ^ k) ≡ 0 → 0 ≡ group / 2 ^ k % 2
  mask_clear e = sym (no_bit (group / 2 ^ k % 2) (2 ^ k) 0 (pow_pos k) (omega (arith, and-bit)))

  pub mask_set : (bit_and group (2 ^ k) ≡ 0 → ⊥) → 1 ≡ group / 2 ^ k % 2
  mask_set e =
      let some : (group / 2 ^ k % 2 ≡ 0 → ⊥) = λ none. e (and-bit ∙ rw none (omega arith)) in
      omega (arith, some)

  -- the row that the test answers as a number
  pub row_under : bool_byte (not (eqb (bit_and group (2 ^ k)) 0)) ≡ group / 2 ^ k % 2
  row_under = go (eqb (bit_and group (2 ^ k)) 0) refl
    where
      go : (s : Bool) → eqb (bit_and group (2 ^ k)) 0 ≡ s → bool_byte (not s) ≡ group / 2 ^ k % 2
      go true e = mask_clear (eqb-true (bit_and group (2 ^ k)) 0 e)
      go false e = mask_set (eqb-false (bit_and group (2 ^ k)) 0 e)

-- ---- the bits of a group

pub length-bits_of : (k group : ℕ) → length (bits_of k group) ≡ k
length-bits_of zero group = refl
length-bits_of (suc k) group = ap suc (length-bits_of k group)

pub get_or-bits_of : (k group i : ℕ) → i < suc k → get_or (bits_of (suc k) group) i 0 ≡ group / 2 ^ (k - i) % 2
get_or-bits_of k group zero h = rw sub-zero refl
get_or-bits_of zero group (suc i) h = absurd (omega arith)
get_or-bits_of (suc k) group (suc i) h = rw suc-sub-suc (get_or-bits_of k group i (omega arith))

pub drop-bits_of : (i k group : ℕ) → drop i (bits_of k group) ≡ bits_of (k - i) group
drop-bits_of zero k group = rw sub-zero refl
drop-bits_of (suc i) zero group = rw zero-sub refl
drop-bits_of (suc i) (suc k) group = rw suc-sub-suc (drop-bits_of i k group)

pub are_bits-bits_of : (k group : ℕ) → are_bits (bits_of k group) ≡ true
are_bits-bits_of zero group = refl
are_bits-bits_of (suc k) group = rw (lt-ltb (group / 2 ^ k % 2) 2 (omega arith)) (are_bits-bits_of k group)

-- the lowest bits are all zero exactly where their number is
pub all_zero-bits_of : (k group : ℕ) → all_zero (bits_of k group) ≡ eqb (group % 2 ^ k) 0
all_zero-bits_of zero group = rw (mod-one group) refl
all_zero-bits_of (suc k) group = rw (all_zero-bits_of k group, bit_above group k) (go (group / 2 ^ k % 2) (group % 2 ^ k))
  where
    go : (bit below : ℕ) → eqb bit 0 && eqb below 0 ≡ eqb (bit * 2 ^ k + below) 0
    go zero below = rw (zero-mul, zero-add) refl
    go (suc bit) below =
        rw (eqb-suc-zero, ne_eqb (suc bit * 2 ^ k + below) 0 (λ e. omega (arith, no_bit (suc bit) (2 ^ k) below (pow_pos k) e))) refl

-- a turn of the loop that writes the bits of a group over some bytes
pub put_bit : (out : List ℕ) (group i : ℕ) → i < length out → i < 31
    → set (take i (bits_of 31 group) ++ drop i out) i (group / 2 ^ (30 - i) % 2) ≡ take (i + 1) (bits_of 31 group) ++ drop (i + 1) out
put_bit out group i h k = rw (← get_or-bits_of 30 group i k) (written (bits_of 31 group) (omega (arith, length-bits_of 31 group)))
  where
    written : (bits : List ℕ) → i < length bits → set (take i bits ++ drop i out) i (get_or bits i 0) ≡ take (i + 1) bits ++ drop (i + 1) out
    written bits l = rw add-one (simp zero-add at (paste-suc out 0 bits i 0 (omega arith) l))

-- ---- the group of some rows

pub group_of-nil : (k : ℕ) → group_of k [] ≡ 0
group_of-nil zero = refl
group_of-nil (suc k) = refl

pub group_of-lt : (k : ℕ) (rows : List ℕ) → are_bits rows ≡ true → group_of k rows < 2 ^ k
group_of-lt zero rows bits = omega arith
group_of-lt (suc k) [] bits = pow_pos (suc k)
group_of-lt (suc k) (row ∷ rows) bits = rw pow-succ' (digits_lt (first_bit row rows bits) (group_of-lt k rows (other_bits row rows bits)))

-- a group of k rows sees no row past the first k
pub group_of-take : (k n : ℕ) (rows : List ℕ) → min k (length rows) ≤ n → group_of k (take n rows) ≡ group_of k rows
group_of-take zero n rows h = refl
group_of-take (suc k) n [] h = rw take-nil refl
group_of-take (suc k) zero (row ∷ rows) h = absurd (omega arith)
group_of-take (suc k) (suc n) (row ∷ rows) h = ap (λ (below : ℕ). row * 2 ^ k + below) (group_of-take k n rows (omega arith))

-- the group of its own bits
pub group_of-bits_of : (k group : ℕ) → group_of k (bits_of k group) ≡ group % 2 ^ k
group_of-bits_of zero group = sym (mod-one group)
group_of-bits_of (suc k) group = rw (group_of-bits_of k group) (sym (bit_above group k))

-- a bit of the group of some rows is a row, zero past the last one; the same said of the group's bits
pub bit-group_of : (k i : ℕ) (rows : List ℕ) → are_bits rows ≡ true → i < suc k → group_of (suc k) rows / 2 ^ (k - i) % 2 ≡ get_or rows i 0
bit-group_of k i [] bits h = rw zero-div refl
bit-group_of k zero (row ∷ rows) bits h =
    rw (sub-zero, high row k (group_of-lt k rows (other_bits row rows bits))) (mod-eq_of_lt (first_bit row rows bits))
bit-group_of zero (suc i) (row ∷ rows) bits h = absurd (omega arith)
bit-group_of (suc k) (suc i) (row ∷ rows) bits h =
    let others = other_bits row rows bits in
    let group = row * 2 ^ suc k + group_of (suc k) rows in
    rw suc-sub-suc
    (bit_below group (suc k) (k - i) (omega arith)
    ∙ rw (low row (suc k) (group_of-lt (suc k) rows others)) (bit-group_of k i rows others (omega arith)))
