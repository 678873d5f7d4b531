-- `last_group` meets its contract: without a word, 0 is the group of the literal 0. Assumes nothing.
use Rattle.std.proofs.Common.{arith}
use Rattle.list_check.proofs.check.Ends.{no_word}
use Rattle.list_check.proofs.check.last_group.Goals as goal

pub returns-in-None : goal.returns-in-None
returns-in-None c = no_word c.args.list.now (omega (arith, c.in-None.ensures.item))
