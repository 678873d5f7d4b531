-- `upbit_load`: the call, and then its numbers.
use Rattle.upbit.proofs.Telling.{change_told}
use Rattle.upbit.proofs.changes.upbit_load.Goals as goal

pub returns : goal.returns
returns c = change_told c.load.ensures c.from.ensures
