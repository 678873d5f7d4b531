-- `all_alike` meets its contract: the numbers so far are alike or not. Assumes nothing.
use mathlib.Core.Path.{◌≡◌}
use lib.ListN.{take}
use Rattle.std.specs.List.{list_all}
use Rattle.load_list.proofs.listing.all_alike.Given as goal

abbrev pub invariant-loop-each : goal.invariant-loop-each
invariant-loop-each g l = l.alike ≡ list_all (λ each. g.T.PartialEq.eq each l.number) (take l.each-index l.numbers)
