-- Document 01, "Reading one bit": start at a word and its first group, and open words until one covers the group.
use Rattle.std.specs.Prelude.{Option, Some, None, cond, List, [], ◌∷◌, ℕ, zero, suc, ◌+◌, ◌-◌, ltb, eqb}
use Rattle.words.specs.Words.{run_of, span}
use Rattle.list_walk.specs.declared.walk.Covering.{Covering}

-- to the group `skip` groups on; damage if the list ends first, if the budget is opened without covering the group, or if an opened fill counts 0
abbrev pub walk : ℕ → List ℕ → ℕ → ℕ → Option Covering
walk budget [] skip opened = None
walk zero (word ∷ list) skip opened = None
walk (suc budget) (word ∷ list) skip opened =
    cond (eqb (span (run_of word)) 0) None
    (cond (ltb skip (span (run_of word)))
    (Some (record { word = word; beyond = span (run_of word) - 1 - skip; opened = opened + 1 }))
    (walk budget list (skip - span (run_of word)) (opened + 1)))

-- from a word whose first group is `first`; damage if that exceeds the group sought
unfoldable pub walk_to : List ℕ → ℕ → ℕ → ℕ → Option Covering
walk_to list first group budget = cond (ltb group first) None (walk budget list (group - first) 0)
