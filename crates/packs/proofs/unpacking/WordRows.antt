-- The rows of one word, as many as are wanted, and the rows of a fill written one after the other. Assumes nothing.
use mathlib.Core.Path.{◌≡◌, refl, ap, sym}
use mathlib.Core.List.{List, [], ◌∷◌, append-nil}
use Prim.Native.Nat.{ℕ, zero, suc, ◌+◌, ◌*◌, ◌/◌, ◌%◌, ◌<◌, ◌≤◌}
use native.Mathlib.Omega.{arith}
use native.Mathlib.Numerals.{add-one}
use lib.ListN.{length, take, set, replicate, replicate-append-replicate}
use lib.Seq.{take-suc-set}
use Rattle.groups.specs.Rows.{bits_of, rows_of}
use Rattle.words.specs.Words.{run_of, span, decode}
use Rattle.words.proofs.Uniform.{rows_of-uniform}
use Rattle.words.proofs.word.Reading.{reads_literal, reads_fill}

pub literal_rows : (n word : ℕ) → word < 0x80000000 → take n (bits_of 31 word) ≡ take n (rows_of (decode (word ∷ [])))
literal_rows n word low = rw (reads_literal word low, append-nil) refl

take-replicate : (n m row : ℕ) → n ≤ m → take n (replicate m row) ≡ replicate n row
take-replicate zero m row h = refl
take-replicate (suc n) zero row h = absurd (omega arith)
take-replicate (suc n) (suc m) row h = ap (◌∷◌ row) (take-replicate n m row (omega arith))

-- the rows of a fill are its bit
pub fill_rows : (n word : ℕ) → 0x80000000 ≤ word → n ≤ 31 * span (run_of word)
    → replicate n (word / 0x40000000 % 2) ≡ take n (rows_of (decode (word ∷ [])))
fill_rows n word high room =
    let bit = word / 0x40000000 % 2 in
    let count = word % 0x40000000 in
    rw (reads_fill word high, append-nil, rows_of-uniform bit count (omega arith))
    (sym (take-replicate n (31 * count) bit (rw (reads_fill word high) at room)))

-- one row more of a fill is written
pub one_more : (out : List ℕ) (i bit : ℕ) → i < length out → take i out ≡ replicate i bit → take (i + 1) (set out i bit) ≡ replicate (i + 1) bit
one_more out i bit h e = rw (← replicate-append-replicate i 1 bit, add-one, take-suc-set out i bit h, e) refl
