-- The table of the row masks: entry i is 2 to the 30 - i. Assumes nothing.
use mathlib.Core.Path.{◌≡◌, refl}
use mathlib.Core.List.{List, [], ◌∷◌}
use Prim.Native.Nat.{ℕ, zero, suc, ◌-◌, ◌^◌, ◌<◌}
use native.Mathlib.Omega.{arith}
use native.Mathlib.Nat.{sub-zero, suc-sub-suc}
use lib.ListN.{get_or}

-- the k powers of 2 from 2 to the k - 1 down to 1
abbrev masks : ℕ → List ℕ
masks zero = []
masks (suc k) = 2 ^ k ∷ masks k

rule : (k i : ℕ) → i < suc k → get_or (masks (suc k)) i 0 ≡ 2 ^ (k - i)
rule k zero h = rw sub-zero refl
rule zero (suc i) h = absurd (omega arith)
rule (suc k) (suc i) h = rw suc-sub-suc (rule k i (omega arith))

-- `masks 31` computes to the code's table: where this is cited for the table, the check compares the two entry by entry
pub mask_at : (i : ℕ) → i < 31 → get_or (masks 31) i 0 ≡ 2 ^ (30 - i)
mask_at i h = rule 30 i h
