-- What a word covers beyond one group, as its tests pick it: exact where the word keeps the form, and too many where it does not. Assumes nothing.
use Rattle.std.proofs.Common.{◌≡◌, ℕ, ◌+◌, ◌/◌, ◌%◌, ◌<◌, ◌≤◌, Bool, true, false, cond, not, ◌&&◌, eqb, ltb, leb, refl, arith, ltb-true, lt-ltb, eq-eqb, ne_eqb, eqb-true, le-leb}
use borrow.Author.Tests.{lt-leb}
use Rattle.groups.proofs.Tests.{same_test}
use Rattle.words.specs.Words.{all_ones, run_of, span, keeps_form, bit_after}
use Rattle.words.proofs.Round.{by_word}

-- two tests of numbers with one answer
same_numbers : (a b c d : ℕ) → (a ≡ b → c ≡ d) → (c ≡ d → a ≡ b) → eqb a b ≡ eqb c d
same_numbers a b c d there back =
    same_test (eqb a b) (eqb c d) (λ e. eq-eqb c d (there (eqb-true a b e))) (λ e. eq-eqb a b (back (eqb-true c d e)))

-- the two highest bits of a fill are those of the word before it exactly where that is a fill of the same bit
like_fill : (before word : ℕ) → before < 0x100000000 → word < 0x100000000 → 0x80000000 ≤ word
    → eqb (before / 0x40000000) (word / 0x40000000) ≡ eqb (bit_after (run_of before)) (word / 0x40000000 % 2)
like_fill before word b w h =
    by_word (λ run. eqb (before / 0x40000000) (word / 0x40000000) ≡ eqb (bit_after run) (word / 0x40000000 % 2)) before
    (λ low. same_numbers (before / 0x40000000) (word / 0x40000000) 2 (word / 0x40000000 % 2) (λ q. omega arith) (λ q. omega arith))
    (λ high. same_numbers (before / 0x40000000) (word / 0x40000000) (before / 0x40000000 % 2) (word / 0x40000000 % 2) (λ q. omega arith) (λ q. omega arith))

-- what a number says of a word: it is the excess where the word keeps the form, and too many where it does not
abbrev pub Tells : Bool → ℕ → ℕ → Type 0
Tells keeps spans excess = (keeps ≡ true → excess + 1 ≡ spans) × (excess < 0x8000 → keeps ≡ true)

-- a fault is too many
broken : (spans : ℕ) → Tells false spans 0xffffffff
broken spans = (λ e. absurd (let z : ◌≡◌ {A = ℕ} 0 1 = cc in omega arith), λ h. absurd (omega arith))

-- the tests of a literal
literal_picked : (zeros full : Bool) → Tells (not zeros && not full) 1 (cond zeros 0xffffffff (cond full 0xffffffff 0))
literal_picked true full = broken 1
literal_picked false true = broken 1
literal_picked false false = (λ e. refl, λ h. refl)

-- the tests of a fill: a count of 0 wraps
fill_picked : (like : Bool) (count counted : ℕ) → count < 0x40000000 → counted < 0x100000000 → (counted + 1) % 0x100000000 ≡ count
    → Tells (not like && ltb 0 count) count (cond like 0xffffffff counted)
fill_picked true count counted c l e = broken count
fill_picked false count counted c l e = (λ k. omega (arith, ltb-true 0 count k), λ h. lt-ltb 0 count (omega arith))

module _ (before word counted fill excess full result : ℕ) (b : before < 0x100000000) (w : word < 0x100000000) (l : counted < 0x100000000)
    (c : (counted + 1) % 0x100000000 ≡ word % 0x40000000)
    (f : fill ≡ cond (eqb (before / 0x40000000) (word / 0x40000000)) 0xffffffff counted)
    (x : excess ≡ cond (leb 0x80000000 word) fill 0)
    (o : full ≡ cond (eqb word all_ones) 0xffffffff excess)
    (r : result ≡ cond (eqb word 0) 0xffffffff full) where
  -- the tests of a word, one after the other
  pub picked : Tells (keeps_form (bit_after (run_of before)) (run_of word)) (span (run_of word)) result
  picked =
      by_word (λ run. Tells (keeps_form (bit_after (run_of before)) run) (span run) result) word
      (λ low. rw (r, o, x, lt-leb 0x80000000 word low) (literal_picked (eqb word 0) (eqb word all_ones)))
      (λ high.
      rw (
        r,
        ne_eqb word 0 (λ q. omega arith),
        o,
        ne_eqb word all_ones (λ q. omega arith),
        x,
        le-leb 0x80000000 word high,
        f,
        like_fill before word b w high,
      )
      (fill_picked (eqb (bit_after (run_of before)) (word / 0x40000000 % 2)) (word % 0x40000000) counted (omega arith) l c))
