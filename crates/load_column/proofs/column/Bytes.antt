-- The bytes of a column by the byte that follows each: the loop that keeps the largest. Assumes nothing.
use Rattle.std.proofs.Common.{◌≡◌, ℕ, ◌+◌, ◌%◌, ◌<◌, ◌≤◌, max, Bool, true, false, ◌&&◌, ◌||◌, eqb, ltb, leb, List, length, get_or, drop, sym, refl, add-one, arith, drop_of_length-le, drop-cons, ltb-false, ltb-true, eqb-true, le-leb, leb-false, leb-true}
use mathlib.Core.Bool.{and-true, and_assoc}
use borrow.Author.Tests.{lt-leb, eqb-false}
use Rattle.memory.specs.Entry.{valid_byte, valid_column}

-- 255 is followed by 0, and every other byte by a larger one
pub follows : (byte values : ℕ) → byte < 256 → leb ((byte + 1) % 256) values ≡ valid_byte values byte
follows byte values h = go (ltb byte values) (eqb byte 255) refl refl
  where
    go : (below last : Bool) → ltb byte values ≡ below → eqb byte 255 ≡ last → leb ((byte + 1) % 256) values ≡ below || last
    go true last b l = le-leb _ values (omega (arith, ltb-true byte values b))
    go false true b l = le-leb _ values (omega (arith, eqb-true byte 255 l))
    go false false b l = lt-leb _ values (omega (arith, ltb-false byte values b, eqb-false byte 255 l))

module _ (values : ℕ) where
  -- the larger of two is at most d where both are
  both_below : (x y : ℕ) → leb x values && leb y values ≡ leb (max x y) values
  both_below x y = go (leb x values) (leb y values) refl refl
    where
      go : (s t : Bool) → leb x values ≡ s → leb y values ≡ t → s && t ≡ leb (max x y) values
      go true true p q = sym (le-leb (max x y) values (omega (arith, leb-true x values p, leb-true y values q)))
      go true false p q = sym (lt-leb (max x y) values (omega (arith, leb-false y values q)))
      go false t p q = sym (lt-leb (max x y) values (omega (arith, leb-false x values p)))

  -- the bytes so far by the largest that follows them, and those to come
  abbrev pub valid_from : List ℕ → ℕ → ℕ → Bool
  valid_from column largest i = leb largest values && valid_column values (drop i column)

  pub none_seen : (column : List ℕ) → valid_column values column ≡ valid_from column 0 0
  none_seen column = rw (le-leb 0 values (omega arith)) refl

  pub one_seen : (column : List ℕ) (largest i next : ℕ) → i < length column → leb next values ≡ valid_byte values (get_or column i 0)
      → valid_from column largest i ≡ valid_from column (max largest next) (i + 1)
  one_seen column largest i next h follows =
      rw (drop-cons column i 0 h, add-one, ← both_below largest next, ← follows) (sym (and_assoc (leb largest values) (leb next values) _))

  pub all_seen : (column : List ℕ) (largest i : ℕ) → length column ≤ i → valid_from column largest i ≡ leb largest values
  all_seen column largest i h = rw (drop_of_length-le column h) (and-true (leb largest values))
