-- Definitions that the contracts of inner functions alone cite.
use Rattle.std.specs.Prelude.{List, [], ◌∷◌, ℕ, ltb, length}
use Rattle.answers.specs.declared.Refusal.TheVariants.{OutSmall}
use Rattle.answers.specs.Outcome.{◌when◌, Outcome, outcome}

-- a finished result is given whole, or refused where the output is shorter
abbrev pub given : List ℕ → List ℕ → Outcome
given result out = outcome (OutSmall when ltb (length out) (length result) ∷ []) result out
