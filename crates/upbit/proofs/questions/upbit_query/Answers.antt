-- `upbit_query`: the call, and then its numbers.
use Rattle.upbit.proofs.Telling.{answer_told}
use Rattle.upbit.proofs.questions.upbit_query.Goals as goal

pub returns : goal.returns
returns c = answer_told c.query.ensures c.from.ensures
