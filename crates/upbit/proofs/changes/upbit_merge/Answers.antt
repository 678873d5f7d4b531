-- `upbit_merge`: the call, and then its numbers.
use Rattle.upbit.proofs.Telling.{change_told}
use Rattle.upbit.proofs.changes.upbit_merge.Goals as goal

pub returns : goal.returns
returns c = change_told c.merge.ensures c.from.ensures
