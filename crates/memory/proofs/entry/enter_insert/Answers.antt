-- `enter_insert` meets its contract: FULL behind the checks of a value. Assumes nothing.
use Rattle.memory.proofs.entry.enter_insert.Goals as goal

pub returns : goal.returns
returns c = rw (← c.enter_value.ensures) c.ask.ensures
