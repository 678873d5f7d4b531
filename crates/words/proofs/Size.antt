-- How long a list is: at most a word a group, and at most two words a one and one word more. Assumes nothing.
use mathlib.Core.Path.{◌≡◌, refl, ◌∙◌, ap, sym}
use mathlib.Core.List.{List, [], ◌∷◌}
use Prim.Native.Nat.{ℕ, suc, zero, ◌+◌, ◌*◌, ◌≤◌}
use native.Mathlib.Omega.{arith}
use lib.ListN.{length, take, drop, length-map, take-append-drop}
use Rattle.groups.specs.Rows.{ones_in, group_of, cut, groups_for, groups_of, rows_of}
use Rattle.words.specs.Words.{Run, add_fill, add_group, runs_of, encode, packed}
use Rattle.groups.proofs.Groups.{length-groups_of}
use Rattle.words.proofs.Ones.{ones_in-append}
use Rattle.groups.proofs.RowsBack.{groups-whole}
use Rattle.words.proofs.Runs.{Apart, by_fill, by_group}
use Rattle.words.proofs.Round.{Groups}

-- ---- at most a word a group

length-add_fill : (bit : ℕ) (runs : List Run) → length (add_fill bit runs) ≤ length runs + 1
length-add_fill bit runs = by_fill (λ l. length l ≤ length runs + 1) bit runs (λ a. omega arith) (λ count rest e. omega (arith, ap length e))

length-add_group : (group : ℕ) (runs : List Run) → length (add_group group runs) ≤ length runs + 1
length-add_group group runs = by_group (λ l. length l ≤ length runs + 1) group runs (λ bit b e. length-add_fill bit runs) (λ p q. omega arith)

length_runs : (groups : List ℕ) → length (runs_of groups) ≤ length groups
length_runs [] = omega arith
length_runs (group ∷ groups) = omega (arith, length-add_group group (runs_of groups), length_runs groups)

-- THEOREM: a list has at most as many words as groups
pub encode-length : (groups : List ℕ) → length (encode groups) ≤ length groups
encode-length groups = rw length-map (length_runs groups)

-- ---- at most two words for each group that is not zero, and one word more

-- how many of some groups are not zero
abbrev non_zero : List ℕ → ℕ
non_zero [] = 0
non_zero (zero ∷ groups) = non_zero groups
non_zero (suc group ∷ groups) = suc (non_zero groups)

not-apart : (bit : ℕ) (runs : List Run) → Apart bit (add_fill bit runs) → ⊥
not-apart bit runs = by_fill (λ l. Apart bit l → ⊥) bit runs (λ a apart. apart refl) (λ count rest e apart. apart refl)

-- a zero group is free in front of a fill of zeros
zero-free : (runs : List Run) (size : ℕ) → (Apart 0 runs → length runs ≤ size) → length runs ≤ size + 1 → length (add_fill 0 runs) ≤ size + 1
zero-free runs size h k = by_fill (λ l. length l ≤ size + 1) 0 runs (λ a. omega (arith, h a)) (λ count rest e. omega (arith, ap length e))

-- the one word more is a fill of zeros in front
runs_size : (groups : List ℕ) → (Apart 0 (runs_of groups) → length (runs_of groups) ≤ 2 * non_zero groups) × (length (runs_of groups) ≤ 2 * non_zero groups + 1)
unfolding add_group
runs_size [] = (λ a. omega arith, omega arith)
runs_size (zero ∷ groups) =
    let h = runs_size groups in
    (λ a. absurd (not-apart 0 (runs_of groups) a), zero-free (runs_of groups) (2 * non_zero groups) h.0 h.1)
runs_size (suc group ∷ groups) =
    let longer = length-add_group (suc group) (runs_of groups) in
    let h = (runs_size groups).1 in
    (λ a. omega arith, omega arith)

-- ---- a group that is not zero has a row that is not

zero_group : (k : ℕ) (rows : List ℕ) → ones_in (take k rows) ≡ 0 → group_of k rows ≡ 0
zero_group zero rows e = refl
zero_group (suc k) [] e = refl
zero_group (suc k) (zero ∷ rows) e = omega (arith, zero_group k rows (omega arith))
zero_group (suc k) (suc row ∷ rows) e = absurd (omega arith)

ones_split : (k : ℕ) (rows : List ℕ) → ones_in rows ≡ ones_in (take k rows) + ones_in (drop k rows)
ones_split k rows = ap ones_in (sym (take-append-drop k rows)) ∙ ones_in-append (take k rows) (drop k rows)

non_zero_first : (group : ℕ) (groups : List ℕ) (ones more : ℕ) → (ones ≡ 0 → group ≡ 0) → non_zero groups ≤ more → non_zero (group ∷ groups) ≤ ones + more
non_zero_first zero groups ones more e h = omega arith
non_zero_first (suc group) groups zero more e h = absurd (omega (arith, e refl))
non_zero_first (suc group) groups (suc ones) more e h = omega arith

non_zero-cut : (count : ℕ) (rows : List ℕ) → non_zero (cut count rows) ≤ ones_in rows
non_zero-cut zero rows = omega arith
non_zero-cut (suc count) rows =
    rw (ones_split 31 rows)
    (non_zero_first (group_of 31 rows) (cut count (drop 31 rows)) (ones_in (take 31 rows)) (ones_in (drop 31 rows))
    (zero_group 31 rows)
    (non_zero-cut count (drop 31 rows)))

-- THEOREM: a list with k ones has at most 2 k + 1 words
pub packed-ones : (rows : List ℕ) → length (packed rows) ≤ 2 * ones_in rows + 1
unfolding packed groups_of
packed-ones rows = rw length-map (omega (arith, (runs_size (groups_of rows)).1, non_zero-cut (groups_for (length rows)) rows))

-- THEOREM: a list has at most a word for each group of its rows
pub packed-length : (rows : List ℕ) → length (packed rows) ≤ groups_for (length rows)
unfolding packed
packed-length rows = omega (arith, encode-length (groups_of rows), length-groups_of rows)

-- ---- the same for groups, which are the groups of their rows

-- THEOREM: a list of groups with k ones has at most 2 k + 1 words
pub encode-ones : (groups : List ℕ) → Groups groups → length (encode groups) ≤ 2 * ones_in (rows_of groups) + 1
unfolding packed
encode-ones groups h = rw (groups-whole groups h) at (packed-ones (rows_of groups))
