-- The answer of the whole check and the parts of the canonical form: the answer from the parts, and what it says of the list. Assumes nothing.
use Rattle.std.proofs.Common.{◌≡◌, ℕ, Bool, true, false, cond, ◌&&◌, eqb, List, map, length, refl}
use Rattle.groups.specs.Rows.{groups_for, clear_from}
use Rattle.words.specs.Words.{run_of, decode, no_fill, well_formed, canonical}
use Rattle.list_check.specs.Inner.{accepted, rejected, check_of}

module _ (list : List ℕ) (rows : ℕ) where
  -- a word breaks the form, or the counts and literals do not add to M
  pub not_formed : well_formed no_fill (map run_of list) && eqb (length (decode list)) (groups_for rows) ≡ false → rejected ≡ check_of list rows
  unfolding check_of canonical
  not_formed e = rw e refl

  -- the bits past the last row decide
  pub as_clear : well_formed no_fill (map run_of list) && eqb (length (decode list)) (groups_for rows) ≡ true
      → cond (clear_from rows (decode list)) accepted rejected ≡ check_of list rows
  unfolding check_of canonical
  as_clear e = rw e refl

  -- a list that the check finds bad is not canonical
  pub bad_canonical : rejected ≡ check_of list rows → canonical rows list ≡ false
  unfolding check_of
  bad_canonical = go (canonical rows list)
    where
      go : (t : Bool) → rejected ≡ cond t accepted rejected → t ≡ false
      go true e = cc
      go false e = refl

  -- one that it finds whole is
  pub whole-canonical : accepted ≡ check_of list rows → canonical rows list ≡ true
  unfolding check_of
  whole-canonical = go (canonical rows list)
    where
      go : (t : Bool) → accepted ≡ cond t accepted rejected → t ≡ true
      go true e = refl
      go false e = cc
