-- The rows past the last one: that they are clear, by their numbers, and as the last group shows it. Assumes nothing.
use mathlib.Core.Path.{◌≡◌, refl, ◌∙◌, ap, ap₂, sym}
use mathlib.Core.Bool.{true, ◌&&◌, and-eq-true_iff}
use mathlib.Core.List.{List, [], ◌∷◌, ◌++◌, append-nil}
use Prim.Native.Nat.{ℕ, zero, suc, ◌+◌, ◌*◌, ◌-◌, ◌%◌, ◌^◌, ◌<◌, ◌≤◌}
use native.Mathlib.Omega.{arith}
use native.Mathlib.Nat.{zero-mod, mod-eq_of_lt}
use lib.Dec.{eqb}
use lib.ListN.{length, get_or, drop, replicate}
use lib.Seq.{drop-nil, drop-append-add, get_or-drop}
use borrow.Author.Tests.{eqb-true, eq-eqb}
use Rattle.groups.specs.Rows.{bits_of, rows_of, row_at, all_zero, clear_from}
use Rattle.groups.specs.Inner.{Groups}
use Rattle.groups.proofs.Group.{drop-bits_of, all_zero-bits_of}
use Rattle.groups.proofs.Groups.{get_or-rows_of}
use Rattle.groups.proofs.Zeros.{all_zero-append}

pub all_zero-get_or : (rows : List ℕ) → all_zero rows ≡ true → (i : ℕ) → get_or rows i 0 ≡ 0
all_zero-get_or [] e i = refl
all_zero-get_or (row ∷ rows) e zero = eqb-true row 0 ((and-eq-true_iff (eqb row 0) (all_zero rows)).0 e).0
all_zero-get_or (row ∷ rows) e (suc i) = all_zero-get_or rows ((and-eq-true_iff (eqb row 0) (all_zero rows)).0 e).1 i

pub get_or-all_zero : (rows : List ℕ) → ((i : ℕ) → get_or rows i 0 ≡ 0) → all_zero rows ≡ true
get_or-all_zero [] h = refl
get_or-all_zero (row ∷ rows) h = rw (eq-eqb row 0 (h 0)) (get_or-all_zero rows (λ i. h (suc i)))

-- each row from the given one on is clear, and back
pub clear_from-row_at : (count : ℕ) (groups : List ℕ) → clear_from count groups ≡ true → (row : ℕ) → count ≤ row → row_at groups row ≡ 0
unfolding clear_from
clear_from-row_at count groups e row h =
    let place : count + (row - count) ≡ row = omega arith in
    rw place at (sym (get_or-drop count (rows_of groups) (row - count) 0 ∙ get_or-rows_of groups (count + (row - count))))
    ∙ all_zero-get_or (drop count (rows_of groups)) e (row - count)

pub row_at-clear_from : (count : ℕ) (groups : List ℕ) → ((row : ℕ) → count ≤ row → row_at groups row ≡ 0) → clear_from count groups ≡ true
unfolding clear_from
row_at-clear_from count groups h =
    get_or-all_zero (drop count (rows_of groups))
    (λ i. get_or-drop count (rows_of groups) i 0 ∙ get_or-rows_of groups (count + i) ∙ h (count + i) (omega arith))

-- no row at all is 1 exactly where each group is 0
pub clear_all : (groups : List ℕ) → Groups groups → clear_from 0 groups ≡ all_zero groups
unfolding clear_from
clear_all [] small = refl
clear_all (group ∷ groups) small =
    all_zero-append (bits_of 31 group) (rows_of groups)
    ∙ ap₂ ◌&&◌
    (all_zero-bits_of 31 group ∙ ap (λ (g : ℕ). eqb g 0) (mod-eq_of_lt (small 0)))
    (clear_all groups (λ i. small (suc i)))

-- the last of some groups; 0 where there is none
abbrev pub last_of : List ℕ → ℕ
last_of [] = 0
last_of (group ∷ []) = group
last_of (group ∷ next ∷ groups) = last_of (next ∷ groups)

-- one group over and over has itself last
pub last_repeated : (groups : List ℕ) (count group : ℕ) → 0 < count → last_of (groups ++ replicate count group) ≡ group
last_repeated groups zero group h = absurd (omega arith)
last_repeated [] (suc zero) group h = refl
last_repeated [] (suc (suc count)) group h = last_repeated [] (suc count) group (omega arith)
last_repeated (first ∷ []) (suc count) group h = last_repeated [] (suc count) group h
last_repeated (first ∷ next ∷ groups) (suc count) group h = last_repeated (next ∷ groups) (suc count) group h

-- THEOREM: no row from one of the last group on, or past it, is set exactly where the last group is zero in the bits of these rows
pub clear_tail : (count : ℕ) (groups : List ℕ) → 31 * length groups ≤ count + 31
    → clear_from count groups ≡ eqb (last_of groups % 2 ^ (31 * length groups - count)) 0
unfolding clear_from
clear_tail count [] e = rw (drop-nil, zero-mod) refl
clear_tail count (group ∷ []) e =
    ap (λ (bits : List ℕ). all_zero (drop count bits)) (append-nil (bits_of 31 group))
    ∙ ap all_zero (drop-bits_of count 31 group)
    ∙ all_zero-bits_of (31 - count) group
clear_tail count (group ∷ next ∷ groups) e =
    let here : count ≡ 31 + (count - 31) = omega arith in
    let bits : 31 * length (group ∷ next ∷ groups) - count ≡ 31 * length (next ∷ groups) - (count - 31) = omega arith in
    ap (λ (row : ℕ). all_zero (drop row (rows_of (group ∷ next ∷ groups)))) here
    ∙ ap all_zero (drop-append-add (bits_of 31 group) (rows_of (next ∷ groups)) (count - 31))
    ∙ clear_tail (count - 31) (next ∷ groups) (omega arith)
    ∙ ap (λ (k : ℕ). eqb (last_of (next ∷ groups) % 2 ^ k) 0) (sym bits)
