-- `run_mark` meets its contract. Assumes nothing.
use Rattle.std.proofs.Common.{arith}
use Rattle.list_check.proofs.check.Marks.{mark_mixed}
use Rattle.list_check.proofs.check.run_mark.Goals as goal

pub returns : goal.returns
returns c =
    let below = c.wrapping_sub_u32 in
    let above = c.wrapping_add_u32 in
    mark_mixed c.args.word below.result above.result (omega arith) (omega arith) below.ensures.value above.ensures.value
