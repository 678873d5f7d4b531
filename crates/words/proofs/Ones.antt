-- How many ones some rows have: counted group by group, and as the machine counts the bits of a word. Assumes nothing.
use mathlib.Core.Path.{◌≡◌, refl, ◌∙◌, ap, sym}
use mathlib.Core.List.{List, [], ◌∷◌, ◌++◌}
use Prim.Native.Nat.{ℕ, zero, suc, ◌+◌, ◌*◌, ◌/◌, ◌%◌, ◌^◌, ◌<◌, ◌≤◌}
use native.Mathlib.Omega.{arith}
use native.Mathlib.Nat.{add_comm, zero-mul, suc-mul, mod-lt, mod-one, mod-eq_of_lt}
use lib.Count.{ones, ones_cat, ones-ones}
use lib.ListN.{length, get_or, replicate, set}
use lib.Pow.{pow_pos}
use Rattle.groups.specs.Rows.{ones_in, bits_of, rows_of}
use Rattle.words.specs.Words.{all_ones}
use Rattle.groups.proofs.Group.{bit_above}

pub ones_in-append : (front back : List ℕ) → ones_in (front ++ back) ≡ ones_in front + ones_in back
ones_in-append [] back = omega arith
ones_in-append (row ∷ front) back = omega (arith, ones_in-append front back)

-- one row set
pub ones_in-set : (rows : List ℕ) (i bit : ℕ) → i < length rows → ones_in (set rows i bit) + get_or rows i 0 ≡ ones_in rows + bit
ones_in-set [] i bit h = absurd (omega arith)
ones_in-set (row ∷ rows) zero bit h = omega arith
ones_in-set (row ∷ rows) (suc i) bit h = omega (arith, ones_in-set rows i bit (omega arith))

ones_bit : (bit : ℕ) → bit < 2 → ones bit ≡ bit
ones_bit zero h = ones-ones 0
ones_bit (suc zero) h = ones-ones 1
ones_bit (suc (suc bit)) h = absurd (omega arith)

ones_in_low : (k group : ℕ) → ones_in (bits_of k group) ≡ ones (group % 2 ^ k)
ones_in_low zero group = sym (ap ones (mod-one group) ∙ ones-ones 0)
ones_in_low (suc k) group =
    let bit = group / 2 ^ k % 2 in
    let below = group % 2 ^ k in
    sym
    (ap ones (bit_above group k)
    ∙ ones_cat k bit below (mod-lt group (pow_pos k))
    ∙ rw (ones_bit bit (omega arith), ones_in_low k group) refl)

-- THEOREM: the rows of a group have as many ones as the machine counts in it
pub ones_in-bits_of : (group : ℕ) → group < 0x80000000 → ones_in (bits_of 31 group) ≡ ones group
ones_in-bits_of group h = ones_in_low 31 group ∙ ap ones (mod-eq_of_lt h)

pub ones_in-le : (k group : ℕ) → ones_in (bits_of k group) ≤ k
ones_in-le zero group = omega arith
ones_in-le (suc k) group = omega (arith, ones_in-le k group)

pub ones_in-none : ones_in (bits_of 31 0) ≡ 0
ones_in-none = refl

ones_in-full : ones_in (bits_of 31 all_ones) ≡ 31
ones_in-full = refl

-- the group that a fill repeats
pub ones_in-uniform : (bit : ℕ) → bit < 2 → ones_in (bits_of 31 (bit * all_ones)) ≡ bit * 31
ones_in-uniform zero h = ones_in-none
ones_in-uniform (suc zero) h = ones_in-full
ones_in-uniform (suc (suc bit)) h = absurd (omega arith)

-- the same group over and over
pub ones_in-replicate : (count group : ℕ) → ones_in (rows_of (replicate count group)) ≡ count * ones_in (bits_of 31 group)
ones_in-replicate zero group = sym (zero-mul (ones_in (bits_of 31 group)))
ones_in-replicate (suc count) group =
    ones_in-append (bits_of 31 group) (rows_of (replicate count group))
    ∙ rw (ones_in-replicate count group, suc-mul) (add_comm (ones_in (bits_of 31 group)) (count * ones_in (bits_of 31 group)))
