-- Rows and groups say the same: rows cut into groups and taken back are the rows, and groups likewise. Assumes nothing.
use mathlib.Core.Path.{◌≡◌, refl, ◌∙◌, ap, sym}
use mathlib.Core.Bool.{true}
use mathlib.Core.Logic.{by_cases}
use mathlib.Core.List.{List}
use Prim.Native.Nat.{ℕ, ◌+◌, ◌*◌, ◌-◌, ◌/◌, ◌%◌, ◌^◌, ◌<◌, ◌≤◌}
use native.Mathlib.Decide.{dec_lt}
use native.Mathlib.Omega.{arith}
use native.Mathlib.Nat.{mod-eq_of_lt}
use lib.ListN.{length, get_or, take, drop, drop_of_length-le, get_or-eq_default}
use lib.Seq.{length-take-le, take_all, get_or-take, get_or-drop, ext_get_or}
use Rattle.groups.specs.Rows.{are_bits, groups_for, group_of, groups_of, bits_of, rows_of, row_at, clear_from}
use Rattle.groups.proofs.Bits.{are_bits-take, are_bits-drop}
use Rattle.groups.proofs.Group.{get_or-bits_of, group_of-bits_of, bit-group_of}
use Rattle.groups.proofs.Groups.{length-groups_of, get_or-groups_of, groups_of-lt, length-rows_of, are_bits-rows_of, get_or-rows_of}
use Rattle.groups.proofs.Tail.{clear_from-row_at, row_at-clear_from}

-- THEOREM: row r of some rows is in group r div 31, at bit 30 - (r mod 31); past the last row that bit is zero
pub row_at-groups_of : (rows : List ℕ) → are_bits rows ≡ true → (row : ℕ) → row_at (groups_of rows) row ≡ get_or rows row 0
row_at-groups_of rows bits row =
    let before = 31 * (row / 31) in
    let place : before + row % 31 ≡ row = omega arith in
    rw (get_or-groups_of rows (row / 31))
    (bit-group_of 30 (row % 31) (drop before rows) (are_bits-drop before rows bits) (omega arith)
    ∙ get_or-drop before rows (row % 31) 0
    ∙ rw place refl)

-- THEOREM: the rows of the groups of some rows are the rows
pub rows_back : (rows : List ℕ) → are_bits rows ≡ true → take (length rows) (rows_of (groups_of rows)) ≡ rows
rows_back rows bits = ext_get_or 0 back rows full each
  where
    back : List ℕ
    back = take (length rows) (rows_of (groups_of rows))

    full : length back ≡ length rows
    full = length-take-le (length rows) (rows_of (groups_of rows)) (omega (arith, length-rows_of (groups_of rows), length-groups_of rows))

    each : (row : ℕ) → row < length back → get_or back row 0 ≡ get_or rows row 0
    each row h =
        get_or-take (length rows) (rows_of (groups_of rows)) row 0 (omega (arith, full))
        ∙ get_or-rows_of (groups_of rows) row
        ∙ row_at-groups_of rows bits row

-- the groups of some rows have no bit past the last row
pub clear_from-groups_of : (rows : List ℕ) → are_bits rows ≡ true → clear_from (length rows) (groups_of rows) ≡ true
clear_from-groups_of rows bits =
    row_at-clear_from (length rows) (groups_of rows) (λ row h. row_at-groups_of rows bits row ∙ get_or-eq_default rows 0 h)

-- two groups with the same rows are the same
same_group : (x y : ℕ) → x < 0x80000000 → y < 0x80000000 → ((i : ℕ) → i < 31 → x / 2 ^ (30 - i) % 2 ≡ y / 2 ^ (30 - i) % 2) → x ≡ y
same_group x y h k f = sym (mod-eq_of_lt h) ∙ sym (group_of-bits_of 31 x) ∙ ap (group_of 31) same ∙ group_of-bits_of 31 y ∙ mod-eq_of_lt k
  where
    same : bits_of 31 x ≡ bits_of 31 y
    same = ext_get_or 0 (bits_of 31 x) (bits_of 31 y) refl (λ i l. get_or-bits_of 30 x i l ∙ f i l ∙ sym (get_or-bits_of 30 y i l))

-- THEOREM: groups are determined by their rows
pub same_groups : (xs ys : List ℕ) → ((i : ℕ) → get_or xs i 0 < 0x80000000) → ((i : ℕ) → get_or ys i 0 < 0x80000000) → length xs ≡ length ys
    → ((row : ℕ) → row_at xs row ≡ row_at ys row) → xs ≡ ys
same_groups xs ys h k e f =
    ext_get_or 0 xs ys e (λ i _. same_group (get_or xs i 0) (get_or ys i 0) (h i) (k i) (λ j l.
    let group : (31 * i + j) / 31 ≡ i = omega arith in
    let place : (31 * i + j) % 31 ≡ j = omega arith in
    rw (group, place) at (f (31 * i + j))))

-- THEOREM: the groups of the rows of some groups are the groups, if no bit is set past the last row
pub groups-back : (count : ℕ) (groups : List ℕ) → ((i : ℕ) → get_or groups i 0 < 0x80000000) → length groups ≡ groups_for count
    → clear_from count groups ≡ true → groups_of (take count (rows_of groups)) ≡ groups
groups-back count groups h e clear = same_groups (groups_of rows) groups (groups_of-lt rows bits) h long each
  where
    rows : List ℕ
    rows = take count (rows_of groups)

    bits : are_bits rows ≡ true
    bits = are_bits-take count (rows_of groups) (are_bits-rows_of groups)

    full : length rows ≡ count
    full = length-take-le count (rows_of groups) (omega (arith, length-rows_of groups))

    long : length (groups_of rows) ≡ length groups
    long = length-groups_of rows ∙ ap groups_for full ∙ sym e

    each : (row : ℕ) → row_at (groups_of rows) row ≡ row_at groups row
    each row =
        row_at-groups_of rows bits row
        ∙ by_cases (dec_lt row count)
        (λ before. get_or-take count (rows_of groups) row 0 before ∙ get_or-rows_of groups row)
        (λ past. get_or-eq_default rows 0 (omega (arith, full)) ∙ sym (clear_from-row_at count groups clear row (omega arith)))

-- groups are the groups of all their rows
pub groups-whole : (groups : List ℕ) → ((i : ℕ) → get_or groups i 0 < 0x80000000) → groups_of (rows_of groups) ≡ groups
unfolding clear_from
groups-whole groups h =
    let all : length (rows_of groups) ≤ 31 * length groups = omega (arith, length-rows_of groups) in
    ap groups_of (sym (take_all (31 * length groups) (rows_of groups) all))
    ∙ groups-back (31 * length groups) groups h (omega arith) (rw (drop_of_length-le (rows_of groups) all) refl)
