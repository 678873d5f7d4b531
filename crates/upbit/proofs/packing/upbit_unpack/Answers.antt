-- `upbit_unpack` gives the numbers of what Unpack answers. Assumes nothing.
use Rattle.upbit.proofs.Telling.{answer_told}
use Rattle.upbit.proofs.packing.upbit_unpack.Goals as goal

pub returns : goal.returns
returns c = answer_told c.unpack.ensures c.from.ensures
