-- Rows copied to their places, part by part. Assumes nothing.
use mathlib.Core.Path.{◌≡◌, refl, ◌∙◌, ap}
use mathlib.Core.List.{List, ◌++◌, append-nil}
use Prim.Native.Nat.{ℕ, ◌+◌, ◌-◌, ◌≤◌}
use native.Mathlib.Omega.{arith}
use lib.ListN.{length, take, drop, drop_of_length-le}
use lib.Seq.{paste, take_all, take_at, drop_at, take-add, take-take, take-append-le, length-take-le}
use Rattle.groups.proofs.Sets.{drop_further}

-- the first k rows are copied
abbrev Copied : List ℕ → List ℕ → List ℕ → ℕ → Type 0
Copied from old now k = now ≡ take k from ++ drop k old

-- a part is copied that begins among them, or behind them
copied_more : (from old now : List ℕ) (k : ℕ) → Copied from old now k → (first count : ℕ) → first ≤ k → k ≤ first + count → first + count ≤ length from
    → Copied from old (paste now first (drop first from) count) (first + count)
copied_more from old now k c first count up on room =
    let front : length (take k from) ≡ k = length-take-le k from (omega arith) in
    let before : take first now ≡ take first from =
    ap (take first) c ∙ take-append-le first (take k from) (drop k old) (omega (arith, front)) ∙ take-take first k from up in
    let behind : drop k now ≡ drop k old = ap (drop k) c ∙ drop_at (take k from) (drop k old) k front in
    let place : k + (first + count - k) ≡ first + count = omega arith in
    let rest : drop (first + count) now ≡ drop (first + count) old = rw place at (drop_further now old k (first + count - k) behind) in
    rw (before, rest, ← take-add first count from) refl

-- the 31 rows of a group, as sixteen and twice eight
module _ (from old one two three : List ℕ) (long : 31 ≤ length from) (first : one ≡ paste old 0 (drop 0 from) 16)
    (second : two ≡ paste one 16 (drop 16 from) 8) (third : three ≡ paste two 23 (drop 23 from) 8) where
  group_copied : Copied from old three 31
  group_copied =
      let sixteen : Copied from old one 16 = first ∙ copied_more from old old 0 refl 0 16 (omega arith) (omega arith) (omega arith) in
      let more : Copied from old two 24 = second ∙ copied_more from old one 16 sixteen 16 8 (omega arith) (omega arith) (omega arith) in
      third ∙ copied_more from old two 24 more 23 8 (omega arith) (omega arith) (omega arith)

  pub copied_there : length from ≡ 31 → take 31 three ≡ from
  copied_there e =
      ap (take 31) group_copied ∙ take_at (take 31 from) (drop 31 old) 31 (length-take-le 31 from long) ∙ take_all 31 from (omega arith)

  pub copied_back : length old ≡ 31 → three ≡ take 31 from
  copied_back e = group_copied ∙ rw (drop_of_length-le old {i = 31} (omega arith)) (append-nil (take 31 from))
