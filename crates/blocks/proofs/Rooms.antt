-- A list in its room: what is read of it, that unused words are zero, and how it comes about. Assumes nothing.
use mathlib.Core.Path.{◌≡◌, refl, ◌∙◌, ap}
use mathlib.Core.List.{List, [], ◌∷◌, ◌++◌}
use Prim.Native.Nat.{ℕ, zero, suc, ◌+◌, ◌-◌, ◌<◌, ◌≤◌}
use native.Mathlib.Nat.{sub-zero, zero-sub, suc-sub-suc}
use native.Mathlib.Omega.{arith}
use lib.ListN.{length, set, take, drop, replicate, length-append, length-replicate}
use lib.Seq.{take_at, drop_at, take-append-add}
use Rattle.blocks.specs.Block.{padded}

module _ (room : ℕ) (list : List ℕ) where
  pub length-padded : length list ≤ room → length (padded room list) ≡ room
  unfolding padded
  length-padded few = simp (length-append, length-replicate) (omega arith)

  pub take-padded : take (length list) (padded room list) ≡ list
  unfolding padded
  take-padded = take_at list (replicate (room - length list) 0) (length list) refl

  -- the unused words are zero
  pub drop-padded : drop (length list) (padded room list) ≡ replicate (room - length list) 0
  unfolding padded
  drop-padded = drop_at list (replicate (room - length list) 0) (length list) refl

pub take-zeros : (few many : ℕ) → few ≤ many → take {A = ℕ} few (replicate many 0) ≡ replicate few 0
take-zeros zero many h = refl
take-zeros (suc few) zero h = absurd (omega arith)
take-zeros (suc few) (suc many) h = ap (◌∷◌ 0) (take-zeros few many (omega arith))

pub drop-zeros : (few many : ℕ) → drop {A = ℕ} few (replicate many 0) ≡ replicate (many - few) 0
drop-zeros zero many = rw sub-zero refl
drop-zeros (suc few) zero = rw zero-sub refl
drop-zeros (suc few) (suc many) = rw suc-sub-suc (drop-zeros few many)

-- a list that was written over the front of zeros, cut to its room
pub padded-front : (room : ℕ) (list : List ℕ) (count zeros : ℕ) → count ≡ length list → count ≤ room → room ≤ zeros
    → take room (list ++ drop count (replicate zeros 0)) ≡ padded room list
unfolding padded
padded-front room list count zeros e few large =
    let whole : room ≡ length list + (room - length list) = omega arith in
    ap (λ (size : ℕ). take size (list ++ drop count (replicate zeros 0))) whole
    ∙ take-append-add list (drop count (replicate zeros 0)) (room - length list)
    ∙ ap (◌++◌ list) (ap (take (room - length list)) (drop-zeros count zeros) ∙ take-zeros (room - length list) (zeros - count) (omega arith))

-- one word that was stored in front of zeros
pub padded_first : (room word zeros : ℕ) → 0 < room → room ≤ zeros → take room (set (replicate zeros 0) 0 word) ≡ padded room (word ∷ [])
padded_first room word zero some large = absurd (omega arith)
padded_first room word (suc zeros) some large = padded-front room (word ∷ []) 1 (suc zeros) refl (omega arith) large
