-- `enter_load` meets its contract: BAD_VALUE, then FULL, behind the checks of an index with no row. Assumes nothing.
use Rattle.load_column.proofs.column.enter_load.Goals as goal

pub returns : goal.returns
returns c = rw (← c.header_for-empty.ensures, ← c.enter_index-lent.ensures, ← c.column_valid.ensures, ← c.ask-valid.ensures) c.ask.ensures
