-- `zeros_after` meets its contract: a group with a 1 ends the run. Assumes nothing.
use Rattle.load_list.proofs.listing.Sparse.{run_ended}
use Rattle.load_list.proofs.listing.zeros_after.Goals as goal

pub returns-else-group-eq0 : goal.returns-else-group-eq0
returns-else-group-eq0 c = run_ended c.args.zeros c.args.group c.if-group-eq0.false
