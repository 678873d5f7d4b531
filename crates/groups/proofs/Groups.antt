-- The groups of some rows and the rows of some groups: how many, the next one, and each one by its number. Assumes nothing.
use mathlib.Core.Path.{◌≡◌, refl, ◌∙◌, ap, ap₂, sym}
use mathlib.Core.Bool.{true}
use mathlib.Core.Logic.{by_cases}
use mathlib.Core.List.{List, [], ◌∷◌, ◌++◌, append_assoc}
use Prim.Native.Nat.{ℕ, zero, suc, min, ◌+◌, ◌*◌, ◌-◌, ◌/◌, ◌%◌, ◌<◌, ◌≤◌}
use native.Mathlib.Decide.{dec_lt}
use native.Mathlib.Omega.{arith}
use native.Mathlib.Nat.{zero-div}
use lib.ListN.{length, get_or, take, drop, replicate, length-append, length-drop, drop_of_length-le, get_or-append, get_or-eq_default}
use lib.Seq.{drop-drop, get_or-drop, get_or-append-add}
use Rattle.groups.specs.Rows.{are_bits, groups_for, group_of, cut, groups_of, bits_of, rows_of, row_at}
use Rattle.groups.specs.Inner.{Groups}
use Rattle.groups.proofs.Bits.{are_bits-append, are_bits-drop}
use Rattle.groups.proofs.Group.{get_or-bits_of, are_bits-bits_of, group_of-lt, group_of-take}

-- ---- the groups of some rows

length_cut : (count : ℕ) (rows : List ℕ) → length (cut count rows) ≡ count
length_cut zero rows = refl
length_cut (suc count) rows = ap suc (length_cut count (drop 31 rows))

pub length-groups_of : (rows : List ℕ) → length (groups_of rows) ≡ groups_for (length rows)
unfolding groups_of
length-groups_of rows = length_cut (groups_for (length rows)) rows

get_or-cut : (count i : ℕ) (rows : List ℕ) → length rows ≤ 31 * count → get_or (cut count rows) i 0 ≡ group_of 31 (drop (31 * i) rows)
get_or-cut zero i rows h = rw (drop_of_length-le rows {i = 31 * i} (omega arith)) refl
get_or-cut (suc count) zero rows h = refl
get_or-cut (suc count) (suc i) rows h =
    let further : 31 + 31 * i ≡ 31 * suc i = omega arith in
    get_or-cut count i (drop 31 rows) (omega (arith, length-drop 31 rows)) ∙ rw (drop-drop, further) refl

-- group i, also past the last one
pub get_or-groups_of : (rows : List ℕ) (i : ℕ) → get_or (groups_of rows) i 0 ≡ group_of 31 (drop (31 * i) rows)
unfolding groups_of
get_or-groups_of rows i = get_or-cut (groups_for (length rows)) i rows (omega arith)

pub groups_of-lt : (rows : List ℕ) → are_bits rows ≡ true → (i : ℕ) → get_or (groups_of rows) i 0 < 0x80000000
groups_of-lt rows bits i = rw get_or-groups_of (group_of-lt 31 (drop (31 * i) rows) (are_bits-drop (31 * i) rows bits))

groups_of-step : (rows : List ℕ) → 0 < length rows → groups_of rows ≡ group_of 31 rows ∷ groups_of (drop 31 rows)
unfolding groups_of
groups_of-step rows h = ap (λ (count : ℕ). cut count rows) one_more
  where
    one_more : groups_for (length rows) ≡ suc (groups_for (length (drop 31 rows)))
    one_more = omega (arith, length-drop 31 rows)

drop_min : (n : ℕ) (rows : List ℕ) → drop n rows ≡ drop (min n (length rows)) rows
drop_min n rows =
    by_cases (dec_lt n (length rows))
    (λ h. let same : min n (length rows) ≡ n = omega arith in rw same refl)
    (λ h. drop_of_length-le rows {i = n} (omega arith) ∙ sym (drop_of_length-le rows {i = min n (length rows)} (omega arith)))

-- the loop that takes rows from place `at` up to `end`, 31 of them or those that are left: its next group, and its end
pub groups_of-next : (rows : List ℕ) (at end : ℕ) → at < length rows → end ≡ min (at + 31) (length rows)
    → groups_of (drop at rows) ≡ group_of 31 (take (end - at) (drop at rows)) ∷ groups_of (drop end rows)
groups_of-next rows at end h e =
    groups_of-step (drop at rows) (omega (arith, length-drop at rows))
    ∙ ap₂ (λ (group : ℕ) (rest : List ℕ). group ∷ groups_of rest)
    (sym (group_of-take 31 (end - at) (drop at rows) (omega (arith, length-drop at rows))))
    (drop-drop 31 at rows ∙ drop_min (at + 31) rows ∙ rw e refl)

pub groups_of-past : (rows : List ℕ) (at : ℕ) → length rows ≤ at → groups_of (drop at rows) ≡ []
unfolding groups_of
groups_of-past rows at h = rw (drop_of_length-le rows h) refl

-- ---- the rows of some groups

pub length-rows_of : (groups : List ℕ) → length (rows_of groups) ≡ 31 * length groups
length-rows_of [] = refl
length-rows_of (group ∷ groups) = omega (arith, length-append (bits_of 31 group) (rows_of groups), length-rows_of groups)

pub rows_of-append : (front back : List ℕ) → rows_of (front ++ back) ≡ rows_of front ++ rows_of back
rows_of-append [] back = refl
rows_of-append (group ∷ front) back = rw (rows_of-append front back, append_assoc) refl

pub are_bits-rows_of : (groups : List ℕ) → are_bits (rows_of groups) ≡ true
are_bits-rows_of [] = refl
are_bits-rows_of (group ∷ groups) = are_bits-append (bits_of 31 group) (rows_of groups) ∙ rw (are_bits-bits_of 31 group) (are_bits-rows_of groups)

-- THEOREM: each row of some groups stands where document 01 says, also past the last one
pub get_or-rows_of : (groups : List ℕ) (row : ℕ) → get_or (rows_of groups) row 0 ≡ row_at groups row
get_or-rows_of [] row = rw zero-div refl
get_or-rows_of (group ∷ groups) row =
    by_cases (dec_lt row 31)
    (λ h.
    let first : row / 31 ≡ 0 = omega arith in
    let place : row % 31 ≡ row = omega arith in
    get_or-append (bits_of 31 group) (rows_of groups) 0 row h ∙ get_or-bits_of 30 group row h ∙ rw (first, place) refl)
    (λ h.
    let further : row ≡ 31 + (row - 31) = omega arith in
    let next : row / 31 ≡ suc ((row - 31) / 31) = omega arith in
    let place : row % 31 ≡ (row - 31) % 31 = omega arith in
    ap (λ (r : ℕ). get_or (bits_of 31 group ++ rows_of groups) r 0) further
    ∙ get_or-append-add (bits_of 31 group) (rows_of groups) (row - 31) 0
    ∙ get_or-rows_of groups (row - 31)
    ∙ rw (next, place) refl)

-- no row past the last is 1
pub row_at-past : (groups : List ℕ) (row : ℕ) → 31 * length groups ≤ row → row_at groups row ≡ 0
row_at-past groups row h = rw (get_or-eq_default groups 0 {n = row / 31} (omega arith), zero-div) refl

-- no row of zero groups is 1
pub get_or-zeros : (count i : ℕ) → get_or {A = ℕ} (replicate count 0) i 0 ≡ 0
get_or-zeros zero i = refl
get_or-zeros (suc count) zero = refl
get_or-zeros (suc count) (suc i) = get_or-zeros count i

pub row_at-zeros : (count row : ℕ) → row_at (replicate count 0) row ≡ 0
row_at-zeros count row = rw (get_or-zeros count (row / 31), zero-div) refl

-- ---- groups of 31 bits: in a part, one list after another, and zeros

pub groups-take : (count : ℕ) (groups : List ℕ) → Groups groups → Groups (take count groups)
groups-take zero groups small i = omega arith
groups-take (suc count) [] small i = small i
groups-take (suc count) (group ∷ groups) small zero = small 0
groups-take (suc count) (group ∷ groups) small (suc i) = groups-take count groups (λ k. small (suc k)) i

pub groups-drop : (count : ℕ) (groups : List ℕ) → Groups groups → Groups (drop count groups)
groups-drop count groups small i = rw get_or-drop (small (count + i))

pub groups-append : (front back : List ℕ) → Groups front → Groups back → Groups (front ++ back)
groups-append [] back f b i = b i
groups-append (group ∷ front) back f b zero = f 0
groups-append (group ∷ front) back f b (suc i) = groups-append front back (λ k. f (suc k)) b i

pub groups-zeros : (count : ℕ) → Groups (replicate count 0)
groups-zeros count i = rw (get_or-zeros count i) (omega arith)
