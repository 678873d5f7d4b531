-- Changes that are not refused: what number 0 says of the checks, and what the change then is. Assumes nothing.
use mathlib.Core.Path.{◌≡◌, refl}
use mathlib.Core.Bool.{true, false}
use mathlib.Core.List.{List, [], ◌∷◌}
use Rattle.answers.specs.Outcome.{Check, ◌when◌}
use Rattle.answers.proofs.Accepted.{Passes, no_zero}
use Rattle.memory.specs.Memory.{Memory}
use Rattle.memory.specs.Outcomes.{After, change}
use Rattle.memory.specs.declared.header.Header.{Header}

-- number 0 is given only where no check refuses, and there the change is made
pub change_accepted : (checks : List Check) (back : Header) (memory : Memory) (after : After)
    → (change checks back memory after).answer.number ≡ 0 → Passes checks
change_accepted [] back memory after e = tt
change_accepted (refusal when true ∷ checks) back memory after e = absurd (no_zero refusal e)
change_accepted (refusal when false ∷ checks) back memory after e = (refl, change_accepted checks back memory after e)

pub passes_change : (checks : List Check) (back : Header) (memory : Memory) (after : After) → Passes checks → change checks back memory after ≡ after
passes_change [] back memory after p = refl
passes_change (refusal when test ∷ checks) back memory after p = rw p.0 (passes_change checks back memory after p.1)
