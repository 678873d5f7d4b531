-- The rows of a column that hold a value, each by its number, and their groups with those behind the last row. Assumes nothing.
use mathlib.Core.Path.{◌≡◌, refl, ◌∙◌, ap}
use mathlib.Core.Bool.{Bool, true, false, cond}
use mathlib.Core.List.{List, [], ◌∷◌, ◌++◌}
use Prim.Native.Nat.{ℕ, zero, suc, ◌+◌, ◌*◌, ◌-◌, ◌<◌, ◌≤◌}
use native.Mathlib.Nat.{zero-add}
use native.Mathlib.Omega.{arith}
use lib.Dec.{ltb, eqb}
use lib.ListN.{length, get_or, take, drop, replicate, drop_of_length-le}
use lib.Seq.{take-nil, drop-nil, drop-drop}
use Rattle.groups.specs.Rows.{are_bits, groups_for, cut, groups_of}
use Rattle.groups.proofs.Groups.{length-groups_of, get_or-zeros}
use Rattle.blocks.specs.Block.{padded}
use Rattle.load_list.specs.Column.{rows_with}

module _ (value : ℕ) where
  pub length-rows_with : (column : List ℕ) → length (rows_with value column) ≡ length column
  length-rows_with [] = refl
  length-rows_with (byte ∷ column) = ap suc (length-rows_with column)

  pub get_or-rows_with : (column : List ℕ) (i : ℕ) → i < length column → get_or (rows_with value column) i 0 ≡ cond (eqb (get_or column i 0) value) 1 0
  get_or-rows_with [] i h = absurd (omega arith)
  get_or-rows_with (byte ∷ column) zero h = refl
  get_or-rows_with (byte ∷ column) (suc i) h = get_or-rows_with column i (omega arith)

  pub rows_with-take : (n : ℕ) (column : List ℕ) → rows_with value (take n column) ≡ take n (rows_with value column)
  rows_with-take n [] = rw take-nil refl
  rows_with-take zero (byte ∷ column) = refl
  rows_with-take (suc n) (byte ∷ column) = rw (rows_with-take n column) refl

  pub rows_with-drop : (n : ℕ) (column : List ℕ) → rows_with value (drop n column) ≡ drop n (rows_with value column)
  rows_with-drop n [] = rw drop-nil refl
  rows_with-drop zero (byte ∷ column) = refl
  rows_with-drop (suc n) (byte ∷ column) = rows_with-drop n column

  pub rows_with_bits : (column : List ℕ) → are_bits (rows_with value column) ≡ true
  rows_with_bits [] = refl
  rows_with_bits (byte ∷ column) = rw (is_bit (eqb byte value)) (rows_with_bits column)
    where
      is_bit : (t : Bool) → ltb (cond t 1 0) 2 ≡ true
      is_bit true = refl
      is_bit false = refl

-- ---- the groups of some rows, and groups behind the last row

cut-none : (count : ℕ) → cut count [] ≡ replicate count 0
cut-none zero = refl
cut-none (suc count) = ap (◌∷◌ 0) (cut-none count)

cut-more : (count more : ℕ) (rows : List ℕ) → cut (count + more) rows ≡ cut count rows ++ cut more (drop (31 * count) rows)
cut-more zero more rows = rw zero-add refl
cut-more (suc count) more rows =
    let sum : suc count + more ≡ suc (count + more) = omega arith in
    let further : 31 + 31 * count ≡ 31 * suc count = omega arith in
    rw (sum, cut-more count more (drop 31 rows), drop-drop, further) refl

-- the groups behind the last row are zero
pub cut-padded : (count : ℕ) (rows : List ℕ) → groups_for (length rows) ≤ count → cut count rows ≡ padded count (groups_of rows)
unfolding padded groups_of
cut-padded count rows h =
    let filled = groups_for (length rows) in
    let whole : count ≡ filled + (count - filled) = omega arith in
    ap (λ (n : ℕ). cut n rows) whole
    ∙ cut-more filled (count - filled) rows
    ∙ rw (drop_of_length-le rows {i = 31 * filled} (omega arith), cut-none, length-groups_of rows) refl

-- and change no group
pub get_or-padded : (room : ℕ) (groups : List ℕ) (i : ℕ) → get_or (padded room groups) i 0 ≡ get_or groups i 0
unfolding padded
get_or-padded room groups i = go (room - length groups) groups i
  where
    go : (count : ℕ) (groups : List ℕ) (i : ℕ) → get_or (groups ++ replicate count 0) i 0 ≡ get_or groups i 0
    go count [] i = get_or-zeros count i
    go count (group ∷ groups) zero = refl
    go count (group ∷ groups) (suc i) = go count groups i
