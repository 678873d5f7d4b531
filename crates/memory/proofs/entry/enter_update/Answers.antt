-- `enter_update` meets its contract: NO_ROW behind the checks of a value. Assumes nothing.
use Rattle.memory.proofs.entry.enter_update.Goals as goal

pub returns : goal.returns
returns c = rw (← c.enter_value.ensures) c.ask.ensures
