-- `enter_row` meets its contract: NO_ROW behind the checks of the index. Assumes nothing.
use Rattle.memory.proofs.entry.enter_row.Goals as goal

pub returns : goal.returns
returns c = rw (← c.enter_index.ensures) c.ask.ensures
