-- `upbit_dump`: the call, and then its numbers.
use Rattle.upbit.proofs.Telling.{answer_told}
use Rattle.upbit.proofs.questions.upbit_dump.Goals as goal

pub returns : goal.returns
returns c = answer_told c.dump.ensures c.from.ensures
