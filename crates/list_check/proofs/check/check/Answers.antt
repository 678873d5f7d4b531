-- `check` meets its contract, an exit at a time: the number of words, the form and the number of groups, the last group. Assumes nothing.
use Rattle.std.proofs.Common.{sym, ◌∙◌, arith}
use Rattle.list_check.proofs.check.Ends.{too_long, ends}
use Rattle.list_check.proofs.check.Verdict.{not_formed}
use Rattle.list_check.proofs.check.check.Goals as goal

pub returns-then-groups-list : goal.returns-then-groups-list
returns-then-groups-list c =
    let a = c.args in
    too_long a.list.now a.length (omega (arith, c.groups_for-groups.ensures, c.if-groups-list.true))

pub keeps_form-requires : goal.keeps_form-requires
keeps_form-requires c = omega (arith, c.groups_for-groups.ensures, c.requires, c.if-groups-list.false)

pub returns-then-not-keeps_form : goal.returns-then-not-keeps_form
returns-then-not-keeps_form c =
    let a = c.args in
    let keeps = c.keeps_form in
    let groups = c.groups_for-groups in
    not_formed a.list.now a.length (rw groups.ensures at (sym keeps.ensures ∙ c.if-not-keeps_form.true))

pub overflow_mul-groups : goal.overflow_mul-groups
overflow_mul-groups c = omega (arith, c.groups_for-groups.ensures)

pub overflow_sub-groups : goal.overflow_sub-groups
overflow_sub-groups c = omega (arith, c.groups_for-groups.ensures)

pub tail_clear-requires : goal.tail_clear-requires
tail_clear-requires c = omega (arith, c.groups_for-groups.ensures)

pub returns-then-not-tail_clear : goal.returns-then-not-tail_clear
returns-then-not-tail_clear c =
    ends c.args.list.now c.args.length c.groups_for-groups.ensures (sym c.keeps_form.ensures ∙ c.if-not-keeps_form.false)
    c.last_group.ensures c.tail_clear.ensures c.if-not-tail_clear.true

pub returns : goal.returns
returns c =
    ends c.args.list.now c.args.length c.groups_for-groups.ensures (sym c.keeps_form.ensures ∙ c.if-not-keeps_form.false)
    c.last_group.ensures c.tail_clear.ensures c.if-not-tail_clear.false
