-- What a word is read as: a literal where bit 31 is clear, a fill where it is set. Assumes nothing.
use mathlib.Core.Path.{◌≡◌, refl, ◌∙◌, sym}
use mathlib.Core.Bool.{Bool, true, false}
use Prim.Native.Nat.{ℕ, ◌/◌, ◌%◌, ◌<◌, ◌≤◌}
use lib.Dec.{leb, eqb}
use borrow.Author.Tests.{lt-ltb, le-ltb, eqb-true, eq-eqb, leb-true, leb-false, le-leb}
use Rattle.groups.proofs.Tests.{same_test}
use Rattle.words.specs.Words.{Run.literal, Run.fill, run_of}

pub reads_literal : (word : ℕ) → word < 0x80000000 → run_of word ≡ literal word
unfolding run_of
reads_literal word h = rw (lt-ltb word 0x80000000 h) refl

pub reads_fill : (word : ℕ) → 0x80000000 ≤ word → run_of word ≡ fill (word / 0x40000000 % 2) (word % 0x40000000)
unfolding run_of
reads_fill word h = rw (le-ltb word 0x80000000 h) refl

-- a test of the highest bits is a test of the whole word
pub high_bits : (high bits least word : ℕ) → (high ≡ bits → least ≤ word) → (least ≤ word → high ≡ bits) → eqb high bits ≡ leb least word
high_bits high bits least word there back =
    same_test (eqb high bits) (leb least word) (λ e. le-leb least word (there (eqb-true high bits e))) (λ e. eq-eqb high bits (back (leb-true least word e)))

-- what `is_fill` has told of a word
module _ (word : ℕ) {told : Bool} (answer : told ≡ leb 0x80000000 word) where
  pub told_fill : told ≡ true → 0x80000000 ≤ word
  told_fill set = leb-true 0x80000000 word (sym answer ∙ set)

  pub told_literal : told ≡ false → word < 0x80000000
  told_literal clear = leb-false 0x80000000 word (sym answer ∙ clear)
