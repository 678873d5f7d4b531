-- `read_into`: one item is read more.
use Rattle.std.proofs.Common.{rules, Some}
use Rattle.fields.proofs.Reading.{one_more}
use Rattle.fields.proofs.values.read_into.Goals as goal

pub loop-item-preserved : goal.loop-item-preserved
loop-item-preserved g c =
    (search rules, one_more (λ x value. goal.F-post g c.args.read x (Some value)) c.loop-item.yielded c.loop-item.list _ c.loop-item.count c.in-Some.item c.in_ok-value.value (search rules) (search rules) c.loop-item.invariant.1 (rw (← c.in_ok-value.was) c.read.ensures))
