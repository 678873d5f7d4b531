-- Laws of texts that are written one after the other. Assumes nothing.
use mathlib.Core.Path.{◌≡◌, refl, ◌∙◌, sym}
use mathlib.Core.List.{List, [], ◌∷◌, ◌++◌}
use Prim.Native.Nat.{ℕ, suc, ◌+◌, ◌*◌, ◌<◌, ◌≤◌}
use native.Mathlib.Nat.{zero-add}
use native.Mathlib.Numerals.{add-one}
use native.Mathlib.Omega.{arith}
use lib.ListN.{length, get_or, drop, length-append}
use lib.Seq.{sets, sets-eq, drop-cons}
use Rattle.groups.proofs.Sets.{sets-append}
use Rattle.digits.specs.Digits.{hex_digits}
use Rattle.digits.proofs.Digits.{length_digits}
use Rattle.print.specs.Text.{hex_words, newline, value_line, refusal_line}

-- a text over the front
pub sets_over : (out text : List ℕ) → length text ≤ length out → sets out 0 text ≡ text ++ drop (length text) out
sets_over out text h = sets-eq text out 0 (omega arith) ∙ rw zero-add refl

pub length-words : (list : List ℕ) → length (hex_words list) ≡ 8 * length list
length-words [] = refl
length-words (word ∷ list) =
    omega (arith, length-append (hex_digits 8 word) (hex_words list), length_digits 8 word, length-words list)

-- one word more
pub word_put : (out list : List ℕ) (next i : ℕ) → i < length list
    → sets (sets out next (hex_digits 8 (get_or list i 0))) (next + 8) (hex_words (drop (i + 1) list)) ≡ sets out next (hex_words (drop i list))
word_put out list next i h =
    rw (add-one, drop-cons list i 0 h) (sym (sets-append out next (hex_digits 8 (get_or list i 0)) (hex_words (drop (suc i) list))))

-- ---- lines

-- two texts and a newline, each written after the one before
module _ (out : List ℕ) (at : ℕ) (first second : List ℕ) (out₁ out₂ out₃ : List ℕ) (next₁ next₂ next₃ : ℕ) where
  pub line_put : next₁ ≡ at + length first → out₁ ≡ sets out at first
      → next₂ ≡ next₁ + length second → out₂ ≡ sets out₁ next₁ second
      → next₃ ≡ next₂ + 1 → out₃ ≡ sets out₂ next₂ newline
      → (next₃ ≡ at + length (first ++ (second ++ newline))) × (out₃ ≡ sets out at (first ++ (second ++ newline)))
  line_put e₁ f₁ e₂ f₂ e₃ f₃ = (
    omega (arith, length-append first (second ++ newline), length-append second newline),
    f₃
        ∙ rw (f₂, f₁, e₂, e₁, sets-append out at first (second ++ newline), sets-append (sets out at first) (at + length first) second newline) refl,
  )

length_line : (first second : List ℕ) → length (first ++ (second ++ newline)) ≡ length first + length second + 1
length_line first second = omega (arith, length-append first (second ++ newline), length-append second newline)

pub length-value : (value : ℕ) (list : List ℕ) → length (value_line value list) ≡ 8 * length list + 3
unfolding value_line
length-value value list = omega (arith, length_line (hex_digits 2 value) (hex_words list), length-words list)

pub length_refusal : (number : ℕ) → length (refusal_line number) ≡ 5
unfolding refusal_line
length_refusal number = refl
