-- The marks of words that are runs: of one word, and gathered over some words. Assumes nothing.
use Rattle.std.proofs.Common.{◌≡◌, ℕ, ◌+◌, ◌%◌, ◌<◌, ◌≤◌, List, length, get_or, arith}
use mathlib.Core.Logic.{by_cases}
use native.Mathlib.Decide.{dec_lt}
use lib.Bits.{bit_or, or_add_and, and_le_l, and_le_r}
use Rattle.list_check.specs.Inner.{Mixed, AllMixed}

-- neither the number before a word nor the one after it has the highest bit
pub mark_mixed : (word below above : ℕ) → word < 0x100000000 → below < 0x100000000 → (below + 1) % 0x100000000 ≡ word → above ≡ (word + 1) % 0x100000000
    → bit_or below above < 0x80000000 → Mixed word
mark_mixed word below above w l b a low =
    let less : below < 0x80000000 = omega (arith, or_add_and below above, and_le_r below above) in
    let more : above < 0x80000000 = omega (arith, or_add_and below above, and_le_l below above) in
    (omega arith, omega arith)

-- where no mark is gathered, the words in front of place i are mixed
pub record Unmarked (words : List ℕ) (marks i : ℕ) : Type 0 where
  pub within : i ≤ length words
  pub mixed : marks < 0x80000000 → (k : ℕ) → k < i → Mixed (get_or words k 0)

pub none_marked : (words : List ℕ) → Unmarked words 0 0
none_marked words = record { within = omega arith; mixed = λ low k h. absurd (omega arith) }

pub next_mark : {words : List ℕ} {marks i : ℕ} → Unmarked words marks i → i < length words → (mark : ℕ)
    → (mark < 0x80000000 → Mixed (get_or words i 0)) → Unmarked words (bit_or marks mark) (i + 1)
next_mark {words} {marks} {i} u h mark tells =
    record {
      within = omega arith;
      mixed = λ low k less.
          let before : marks < 0x80000000 = omega (arith, or_add_and marks mark, and_le_r marks mark) in
          let here : mark < 0x80000000 = omega (arith, or_add_and marks mark, and_le_l marks mark) in
          by_cases (dec_lt k i) (λ front. u.mixed before k front) (λ not-front. let last : i ≡ k = omega arith in rw last at (tells here));
    }

pub all_unmarked : {words : List ℕ} {marks i : ℕ} → Unmarked words marks i → length words ≤ i → marks < 0x80000000 → AllMixed words
all_unmarked u h low k less = u.mixed low k (omega arith)
