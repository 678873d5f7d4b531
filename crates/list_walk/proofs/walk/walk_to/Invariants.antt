-- `walk_to` meets its contract. The loop's invariant: the walk asked for is the one from the word at hand on, with `skip` groups to pass. Assumes nothing.
use mathlib.Core.Path.{◌≡◌}
use Rattle.list_walk.specs.Walk.{walk_to}
use Rattle.list_walk.proofs.walk.Steps.{walk_from}
use Rattle.list_walk.proofs.walk.walk_to.Given as goal

abbrev pub invariant-loop-place : goal.invariant-loop-place
invariant-loop-place l = walk_to l.list l.first l.group l.budget ≡ walk_from l.list l.budget l.place l.skip
