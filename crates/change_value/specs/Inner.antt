-- Definitions that the contracts of inner functions alone cite.
use Rattle.std.specs.Prelude.{Result, not, List, [], ◌∷◌, ℕ, length}
use Rattle.answers.specs.Outcome.{◌when◌}
use Rattle.answers.specs.declared.Refusal.TheVariants.{Damaged}
use Rattle.memory.specs.Entry.{bad_value}
use Rattle.memory.specs.Inner.{entered}
use Rattle.memory.specs.Memory.{sizes_of}
use Rattle.memory.specs.declared.header.Header.{Header}
use Rattle.change_value.specs.Change.{whole}
use Rattle.answers.specs.declared.Refusal.{Refusal}
use Rattle.blocks.specs.declared.sizes.Sizes.{Sizes}

-- what a call on a value whose lists are to be whole asks, for so many fences lent
unfoldable pub entered_whole : List ℕ → ℕ → Header → ℕ → Result Sizes Refusal
entered_whole words fences header value =
    entered (length words) fences header (bad_value header value ∷ Damaged when not (whole (sizes_of header) words value) ∷ [])
