-- `upbit_delete`: the call, and then its numbers.
use Rattle.upbit.proofs.Telling.{change_told}
use Rattle.upbit.proofs.changes.upbit_delete.Goals as goal

pub returns : goal.returns
returns c = change_told c.delete.ensures c.from.ensures
