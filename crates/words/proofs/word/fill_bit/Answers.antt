-- `fill_bit` meets its contract: a mask of one bit is a remainder by 2. Assumes nothing.
use Prim.Native.Nat.{◌/◌}
use lib.Bits.{and_mask}
use Rattle.words.proofs.word.fill_bit.Goals as goal

pub returns : goal.returns
returns c = and_mask (c.args.word / 0x40000000) 1
