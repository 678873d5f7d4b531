-- `upbit_update`: the call, and then its numbers.
use Rattle.upbit.proofs.Telling.{change_told}
use Rattle.upbit.proofs.changes.upbit_update.Goals as goal

pub returns : goal.returns
returns c = change_told c.update.ensures c.from.ensures
