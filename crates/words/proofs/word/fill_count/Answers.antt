-- `fill_count` meets its contract: a mask of the 30 low bits is a remainder by 2 ^ 30. Assumes nothing.
use lib.Bits.{and_mask}
use Rattle.words.proofs.word.fill_count.Goals as goal

pub returns : goal.returns
returns c = and_mask c.args.word 30
