-- `upbit_pack` gives the numbers of what Pack answers. Assumes nothing.
use Rattle.upbit.proofs.Telling.{answer_told}
use Rattle.upbit.proofs.packing.upbit_pack.Goals as goal

pub returns : goal.returns
returns c = answer_told c.pack.ensures c.from.ensures
