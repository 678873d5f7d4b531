-- Definitions that the contracts of inner functions alone cite.
use Rattle.std.specs.Prelude.{◌≡◌, Bool, true, List, ◌∷◌, ◌++◌, map, ℕ, ◌/◌, ◌%◌, ◌<◌, ◌-◌, ◌^◌, ◌≤◌, length, get_or, take, drop, replicate}
use Rattle.groups.specs.Rows.{all_zero}
use Rattle.words.specs.Words.{run_of, span, decode, no_fill, well_formed, encode}
use Rattle.lists.specs.Combine.{Operation, exclusive, combined}
use Rattle.lists.specs.declared.one_row.Short.{Short}

-- 1 where both bits are 1
abbrev pub shared : Operation
shared = record { neither = 0; right = 0; left = 0; both = 1 }

-- 1 where a bit is 1
abbrev pub either : Operation
either = record { neither = 0; right = 1; left = 1; both = 1 }

-- one group XORed into each of so many groups from a place on
abbrev pub turned_from : List ℕ → ℕ → ℕ → ℕ → List ℕ
turned_from groups at count group =
    take at groups ++ (combined exclusive (take count (drop at groups)) (replicate count group) ++ drop count (drop at groups))

-- no row is 1 in both of two lists of equally many groups
unfoldable pub apart : List ℕ → List ℕ → Bool
apart xs ys = all_zero (combined shared xs ys)

-- no fill of a list counts 0
abbrev pub Filled : List ℕ → Type 0
Filled list = (i : ℕ) → i < length list → 0 < span (run_of (get_or list i 0))

-- a list that keeps the form
abbrev pub Formed : List ℕ → Type 0
Formed list = well_formed no_fill (map run_of list) ≡ true

-- a list whose groups are so many
pub record Covers (groups : ℕ) (list : List ℕ) : Type 0 where
  pub filled : Filled list
  pub long : length (decode list) ≡ groups

-- so many groups whose only 1 is the row
unfoldable pub one_row : ℕ → ℕ → List ℕ
one_row groups row = replicate (row / 31) 0 ++ 2 ^ (30 - row % 31) ∷ replicate (groups - row / 31 - 1) 0

-- a short list is that of some groups
pub record Packs (groups : List ℕ) (short : Short) : Type 0 where
  pub few : short.count ≤ 3
  pub list : take short.count short.words ≡ encode groups
