-- Definitions that the contracts of inner functions alone cite.
use Rattle.std.specs.Prelude.{Result, Ok, Err, ◌≡◌, ℕ, ◌+◌, ◌*◌, ◌<◌, ◌≤◌, true, cond, List, map, length, take, slice_index}
use Rattle.words.specs.Words.{all_ones, run_of, decode, no_fill, well_formed, canonical}
use Rattle.list_check.specs.declared.check.NotCanonical.{NotCanonical}

-- what the check answers: the list is canonical, or it is not
abbrev pub accepted : Result (Unit {0}) NotCanonical
accepted = Ok tt

abbrev pub rejected : Result (Unit {0}) NotCanonical
rejected = Err (record {})

-- the check of a list for L rows
unfoldable pub check_of : List ℕ → ℕ → Result (Unit {0}) NotCanonical
check_of list rows = cond (canonical rows list) accepted rejected

-- a word that is a literal whose bits are not all alike
abbrev pub Mixed : ℕ → Type 0
Mixed word = (0 < word) × (word < all_ones)

-- every word is such a literal
abbrev pub AllMixed : List ℕ → Type 0
AllMixed words = (i : ℕ) → i < length words → Mixed (slice_index words i)

-- the words in front of place i keep the form, and the sum is what they cover beyond a group each
pub record Passed (list : List ℕ) (covered i : ℕ) : Type 0 where
  pub form : well_formed no_fill (map run_of (take i list)) ≡ true
  pub counts : covered + i ≡ length (decode (take i list))
  pub room : covered ≤ i * 0x8000

-- what the words in front of place i have shown: if no high bit is gathered they passed, and a list that keeps the form and covers few groups gives no high bit
pub record PassedTo (list : List ℕ) (gathered covered i : ℕ) : Type 0 where
  pub within : i ≤ length list
  pub narrow : covered < 0x100000000
  pub passed : gathered < 0x8000 → Passed list covered i
  pub passes : well_formed no_fill (map run_of list) ≡ true → length (decode list) ≤ 0x8000 → gathered < 0x8000
