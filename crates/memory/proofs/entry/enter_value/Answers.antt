-- `enter_value` meets its contract: BAD_VALUE behind the checks of the index. Assumes nothing.
use Rattle.memory.proofs.entry.enter_value.Goals as goal

pub returns : goal.returns
returns c = rw (← c.enter_index.ensures) c.ask.ensures
