-- `upbit_insert`: the call, and then its numbers.
use Rattle.upbit.proofs.Telling.{change_told}
use Rattle.upbit.proofs.changes.upbit_insert.Goals as goal

pub returns : goal.returns
returns c = change_told c.insert.ensures c.from.ensures
