-- `following` meets its contract: 255 is followed by 0. Assumes nothing.
use Rattle.std.proofs.Common.{arith}
use Rattle.load_column.proofs.column.Bytes.{follows}
use Rattle.load_column.proofs.column.following.Goals as goal

pub returns : goal.returns
returns c values = follows c.args.byte values (omega arith)
