-- `none_full` meets its contract: none is all ones where none was so far and none of those to come is. Assumes nothing.
use mathlib.Core.Path.{◌≡◌}
use mathlib.Core.Bool.{not, ◌&&◌}
use lib.ListN.{drop}
use Rattle.load_list.specs.Inner.{none_full}
use Rattle.load_list.proofs.listing.none_full.Given as goal

abbrev pub invariant-loop-group : goal.invariant-loop-group
invariant-loop-group l = none_full l.groups ≡ (not l.full && none_full (drop l.group-index l.groups))
