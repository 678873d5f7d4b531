-- `row_of`: the bit under the mask of row i is row i. Assumes nothing.
use Prim.Native.Nat.{◌-◌}
use Rattle.groups.proofs.rows.row_of.Goals as goal

pub returns : goal.returns
returns c = c.under.ensures (30 - c.args.i) c.mask_of.ensures
