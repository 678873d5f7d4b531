-- `walk_on` meets its contract: the same word covers the group, or the next one is opened as the walk opens it. Assumes nothing.
use mathlib.Core.Path.{◌∙◌, sym}
use native.Mathlib.Nat.{sub-zero}
use native.Mathlib.Omega.{arith}
use Rattle.list_walk.proofs.walk.Steps.{ends, spends, counts_none, covers}
use Rattle.list_walk.proofs.Onward.{on_same, on_next}
use Rattle.list_walk.proofs.walk.walk_on.Goals as goal

pub returns-then-skip-before : goal.returns-then-skip-before
returns-then-skip-before c first group e =
    let args = c.args in
    sym (on_same args.list.now first group args.budget args.before e args.skip c.if-skip-before.true)

pub returns-then-list-next : goal.returns-then-list-next
returns-then-list-next c first group e =
    let args = c.args in
    let next = on_next args.list.now first group args.budget args.before e args.skip (omega arith) in
    sym (next ∙ ends args.list.now args.budget args.before.opened 0 c.if-list-next.true)

pub returns-then-budget-next : goal.returns-then-budget-next
returns-then-budget-next c first group e =
    let args = c.args in
    let next = on_next args.list.now first group args.budget args.before e args.skip (omega arith) in
    sym (next ∙ spends args.list.now args.budget args.before.opened 0 (omega arith) c.if-budget-next.true)

pub returns-then-count-eq0 : goal.returns-then-count-eq0
returns-then-count-eq0 c first group e =
    let args = c.args in
    let next = on_next args.list.now first group args.budget args.before e args.skip (omega arith) in
    let none = sym c.span_of-count.ensures ∙ c.if-count-eq0.true in
    sym (next ∙ counts_none args.list.now args.budget args.before.opened 0 (omega arith) (omega arith) none)

pub returns : goal.returns
returns c first group e =
    let args = c.args in
    let next = on_next args.list.now first group args.budget args.before e args.skip (omega arith) in
    let wide = c.span_of-count.ensures in
    let some = rw wide at c.if-count-eq0.false in
    let found = covers args.list.now args.budget args.before.opened 0 (omega arith) (omega arith) (omega (arith, some)) in
    rw wide (sym (next ∙ rw sub-zero at found))
