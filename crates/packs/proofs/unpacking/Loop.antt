-- The invariant of the loop that writes the rows of a list, one word after the other, and its turn. Assumes nothing.
use mathlib.Core.Path.{◌≡◌, refl, ◌∙◌, ap, sym}
use mathlib.Core.Logic.{by_cases}
use mathlib.Core.List.{List, [], ◌∷◌, ◌++◌, append-nil, append_assoc}
use Prim.Native.Nat.{ℕ, zero, suc, min, ◌+◌, ◌*◌, ◌-◌, ◌<◌, ◌≤◌}
use native.Mathlib.Decide.{dec_lt}
use native.Mathlib.Omega.{arith}
use native.Mathlib.Nat.{zero-sub, sub-zero, suc-sub-suc}
use lib.ListN.{length, get_or, take, length-append}
use lib.Seq.{take_all, take-nil, take_at, length-take-le}
use borrow.Rule.Slice.PartMut.{mid_of, post_of, put_mid, mid_len, same_len_mid}
use Rattle.groups.specs.Rows.{rows_of}
use Rattle.words.specs.Words.{span, decode}
use Rattle.words.proofs.Forms.{run_at, decode_upto, length_upto, length-groups}
use Rattle.groups.proofs.Groups.{rows_of-append, length-rows_of}

-- the first n of two lists, whatever n is
take-append : (n : ℕ) (xs ys : List ℕ) → take n (xs ++ ys) ≡ take n xs ++ take (n - length xs) ys
take-append zero xs ys = rw zero-sub refl
take-append (suc n) [] ys = rw sub-zero refl
take-append (suc n) (x ∷ xs) ys = rw (suc-sub-suc, take-append n xs ys) refl

-- no more is taken than there is
take_most : (n most : ℕ) (xs : List ℕ) → n ≡ min most (length xs) → take n xs ≡ take most xs
take_most n most xs e =
    by_cases (dec_lt most (length xs))
    (λ more. let all : n ≡ most = omega arith in rw all refl)
    (λ less. take_all n xs (omega arith) ∙ sym (take_all most xs (omega arith)))

-- the rows of the word at place i
abbrev rows_at : List ℕ → ℕ → List ℕ
rows_at list i = rows_of (decode (get_or list i 0 ∷ []))

-- a list is read up to place i, and its rows stand in the output up to place `at`
pub record Unpacking (list out₀ out : List ℕ) (at i : ℕ) : Type 0 where
  pub within : i ≤ length list
  pub same : length out ≡ length out₀
  pub reached : at ≡ min (31 * length (decode (take i list))) (length out₀)
  pub front : take at out ≡ take (length out₀) (rows_of (decode (take i list)))

pub begin : (list out : List ℕ) → Unpacking list out out 0 0
begin list out = record { within = omega arith; same = refl; reached = omega arith; front = rw take-nil refl }

-- one word more: its rows are written from place `at` on, as many as there is room for
module _ {list out₀ out : List ℕ} {at i : ℕ} (u : Unpacking list out₀ out at i) (h : i < length list) (end : ℕ)
    (e : end ≡ min (at + 31 * span (run_at list i)) (length out)) where
  rows_upto : rows_of (decode (take (i + 1) list)) ≡ rows_of (decode (take i list)) ++ rows_at list i
  rows_upto = rw (decode_upto list i h, rows_of-append (decode (take i list)), append-nil) refl

  rows_at_lem : length (rows_at list i) ≡ 31 * span (run_at list i)
  rows_at_lem = omega (arith, length-rows_of (decode (get_or list i 0 ∷ [])), length-groups (run_at list i) [])

  part : length (mid_of at (end - at) out) ≡ end - at
  part = mid_len at end out (omega (arith, e))

  pub part-fits : length (mid_of at (end - at) out) ≤ 31 * span (run_at list i)
  part-fits = omega (arith, part, e)

  module _ (rows : List ℕ) (r : rows ≡ take (length (mid_of at (end - at) out)) (rows_at list i)) where
    rows-length : length rows ≡ length (mid_of at (end - at) out)
    rows-length = ap length r ∙ length-take-le (length (mid_of at (end - at) out)) (rows_at list i) (omega (arith, part-fits, rows_at_lem))

    rows_are : rows ≡ take (length out₀ - length (rows_of (decode (take i list)))) (rows_at list i)
    rows_are =
        r
        ∙ take_most (length (mid_of at (end - at) out)) (length out₀ - length (rows_of (decode (take i list)))) (rows_at list i)
        (omega (arith, part, e, rows_at_lem, u.same, u.reached, length-rows_of (decode (take i list))))

    written : take end (put_mid at (end - at) out rows) ≡ take at out ++ rows
    written =
        let before : length (take at out) ≡ at = length-take-le at out (omega (arith, u.same, u.reached)) in
        ap (take end) (sym (append_assoc (take at out) rows (post_of at (end - at) out)))
        ∙ take_at (take at out ++ rows) (post_of at (end - at) out) end (omega (arith, before, length-append (take at out) rows, rows-length, part, e))

    pub next_word : Unpacking list out₀ (put_mid at (end - at) out rows) end (i + 1)
    next_word = record {
      within = omega arith;
      same = same_len_mid at (end - at) out rows rows-length ∙ u.same;
      reached = omega (arith, e, u.same, u.reached, length_upto list i h);
      front = written ∙ rw (rows_upto, take-append, ← u.front, ← rows_are) refl;
    }

-- no word is left, and the rows reach to the end of the output
pub ends : {list out₀ out : List ℕ} {at i : ℕ} → Unpacking list out₀ out at i → length list ≤ i → length out₀ ≤ 31 * length (decode list)
    → out ≡ take (length out₀) (rows_of (decode list))
ends {list} {out₀} {out} {at} {i} u h k =
    let all : take i list ≡ list = take_all i list h in
    let full : length out ≤ at = omega (arith, u.same, u.reached, ap (λ (l : List ℕ). length (decode l)) all) in
    sym (take_all at out full) ∙ u.front ∙ rw all refl
