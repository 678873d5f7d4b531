-- `legible_holder` meets its contract: the row is damaged, or its holder is told. Assumes nothing.
use mathlib.Core.Path.{refl, sym, ◌∙◌}
use Rattle.memory.specs.Inner.{legible_holder}
use Rattle.memory.proofs.row.legible_holder.Goals as goal

pub returns-then-is_damaged : goal.returns-then-is_damaged
unfolding legible_holder
returns-then-is_damaged c = rw (sym c.is_damaged.ensures ∙ c.if-is_damaged.true) refl

pub returns : goal.returns
unfolding legible_holder
returns c = rw (sym c.is_damaged.ensures ∙ c.if-is_damaged.false, ← c.holder_of.ensures) refl
