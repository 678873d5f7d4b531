-- The way to the word that covers a group, a word at a time: where the list ends, where a word covers the group, and past a word. Assumes nothing.
use mathlib.Core.Path.{◌≡◌, refl, ◌∙◌}
use mathlib.Core.Bool.{cond}
use mathlib.Core.List.{List}
use Prim.Native.Nat.{ℕ, ◌+◌, ◌<◌, ◌≤◌}
use native.Mathlib.Numerals.{add-one}
use native.Mathlib.Omega.{arith}
use lib.Dec.{ltb}
use lib.ListN.{length, drop, drop_of_length-le}
use lib.Seq.{drop-cons}
use borrow.Author.Tests.{lt-ltb, le-ltb}
use Rattle.words.specs.Words.{run_of, span}
use Rattle.words.proofs.Forms.{run_at}
use Rattle.words.proofs.Round.{by_word}
use Rattle.block_read.specs.Fences.{fence_of, locate}

-- how many groups a word can cover
pub span-lt : (word : ℕ) → span (run_of word) < 0x40000000
span-lt word = by_word (λ run. span run < 0x40000000) word (λ h. omega arith) (λ h. omega arith)

module _ (words : List ℕ) (i place first group : ℕ) where
  pub ends : length words ≤ i → locate (drop i words) place first group ≡ fence_of place first
  ends h = rw (drop_of_length-le words h) refl

  module _ (h : i < length words) where
    opens : locate (drop i words) place first group
        ≡ cond (ltb group (first + span (run_at words i))) (fence_of place first) (locate (drop (i + 1) words) (place + 1) (first + span (run_at words i)) group)
    opens = rw (drop-cons words i 0 h, add-one i, add-one place) refl

    pub covers : group < first + span (run_at words i) → locate (drop i words) place first group ≡ fence_of place first
    covers near = opens ∙ rw (lt-ltb group (first + span (run_at words i)) near) refl

    pub passes : first + span (run_at words i) ≤ group
        → locate (drop i words) place first group ≡ locate (drop (i + 1) words) (place + 1) (first + span (run_at words i)) group
    passes far = opens ∙ rw (le-ltb group (first + span (run_at words i)) far) refl
