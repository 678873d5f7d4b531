-- A write of some words at a place: what stands before it, in it and after it. Assumes nothing.
use mathlib.Core.Path.{◌≡◌, refl, ◌∙◌, ap, sym}
use mathlib.Core.List.{List, [], ◌∷◌, ◌++◌}
use Prim.Native.Nat.{ℕ, suc, ◌+◌, ◌<◌, ◌≤◌}
use native.Mathlib.Nat.{add-zero, zero-add}
use native.Mathlib.Numerals.{add-one}
use native.Mathlib.Omega.{arith}
use lib.ListN.{length, take, drop, set, get_or, length-append}
use lib.Seq.{sets, sets-eq, drop-drop, take_at, drop_at, length-take-le, paste, paste-suc, take-length}

module _ (out : List ℕ) (at count : ℕ) (words : List ℕ) (long : length words ≡ count) (fits : at + count ≤ length out) where
  front_length : length (take at out ++ words) ≡ at + count
  front_length = length-append (take at out) words ∙ rw (length-take-le at out (omega arith), long) refl

  split : sets out at words ≡ take at out ++ words ++ drop (at + count) out
  split = sets-eq words out at (rw long fits) ∙ rw long refl

  pub sets-front : take (at + count) (sets out at words) ≡ take at out ++ words
  sets-front = ap (take (at + count)) split ∙ take_at (take at out ++ words) (drop (at + count) out) (at + count) front_length

  pub sets_behind : drop (at + count) (sets out at words) ≡ drop (at + count) out
  sets_behind = ap (drop (at + count)) split ∙ drop_at (take at out ++ words) (drop (at + count) out) (at + count) front_length

-- some words and others after them
pub sets-append : (out : List ℕ) (at : ℕ) (words more : List ℕ) → sets out at (words ++ more) ≡ sets (sets out at words) (at + length words) more
sets-append out at [] more = rw add-zero refl
sets-append out at (word ∷ words) more =
    sets-append (set out at word) (suc at) words more
    ∙ ap (λ (place : ℕ). sets (sets (set out at word) (suc at) words) place more) (omega arith)

-- lists that agree from a place on agree further on
pub drop_further : {A : Type 0} (out out₀ : List A) (at count : ℕ) → drop at out ≡ drop at out₀ → drop (at + count) out ≡ drop (at + count) out₀
drop_further out out₀ at count e = sym (drop-drop count at out) ∙ ap (drop count) e ∙ drop-drop count at out₀

-- a list is copied over the front of another, element by element
module _ (list out₀ out : List ℕ) (i : ℕ) (e : out ≡ paste out₀ 0 list i) where
  pub copies : length list ≤ length out₀ → i < length list → set out i (get_or list i 0) ≡ paste out₀ 0 list (i + 1)
  copies room more =
      let z : 0 + i ≡ i = zero-add i in
      rw (e, add-one) (ap (λ (k : ℕ). set (paste out₀ 0 list i) k (get_or list i 0)) (sym z) ∙ paste-suc out₀ 0 list i 0 (omega arith) more)

  pub copied : i ≡ length list → out ≡ list ++ drop (length list) out₀
  copied end = e ∙ rw (end, take-length, zero-add) refl

-- a list that was written in front of anything else
pub front : (made list rest : List ℕ) (count : ℕ) → count ≡ length list → made ≡ list ++ rest → take count made ≡ list
front made list rest count c m = rw m (take_at list rest count (sym c))
