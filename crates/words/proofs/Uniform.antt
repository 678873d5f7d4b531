-- Groups of one bit: the rows that they stand for. Assumes nothing.
use mathlib.Core.Path.{◌≡◌, refl, ◌∙◌, ap₂}
use mathlib.Core.List.{◌++◌}
use Prim.Native.Nat.{ℕ, zero, suc, ◌+◌, ◌*◌, ◌<◌}
use native.Mathlib.Omega.{arith}
use lib.ListN.{replicate, replicate-append-replicate}
use Rattle.groups.specs.Rows.{bits_of, rows_of}
use Rattle.words.specs.Words.{all_ones}
use Rattle.words.specs.Inner.{uniform}

zero-rows : bits_of 31 (0 * all_ones) ≡ replicate 31 0
zero-rows = refl

one-rows : bits_of 31 (1 * all_ones) ≡ replicate 31 1
one-rows = refl

pub bits_of-uniform : (bit : ℕ) → bit < 2 → bits_of 31 (bit * all_ones) ≡ replicate 31 bit
bits_of-uniform zero h = zero-rows
bits_of-uniform (suc zero) h = one-rows
bits_of-uniform (suc (suc bit)) h = absurd (omega arith)

pub rows_of-uniform : (bit count : ℕ) → bit < 2 → rows_of (uniform bit count) ≡ replicate (31 * count) bit
rows_of-uniform bit zero h = refl
rows_of-uniform bit (suc count) h =
    let further : 31 + 31 * count ≡ 31 * suc count = omega arith in
    ap₂ ◌++◌ (bits_of-uniform bit h) (rows_of-uniform bit count h) ∙ replicate-append-replicate 31 (31 * count) bit ∙ rw further refl
