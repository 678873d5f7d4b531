-- `read_into`: what is read so far stands in the list, no more than there is room for.
use Rattle.std.proofs.Common.{◌≤◌, length, take, Some}
use Rattle.std.specs.List.{AllZip}
use Rattle.fields.proofs.values.read_into.Given as goal

abbrev pub invariant-loop-item : goal.invariant-loop-item
invariant-loop-item g l =
    (l.count ≤ length l.list)
    × AllZip (λ x value. goal.F-post g l.read x (Some value)) l.yielded (take l.count l.list)
