-- `audit_value`: the lists and rows first, then the fences.
use Rattle.fence_records.proofs.checking.Rounds.{lists_fail, fences_ask, fences_tell}
use Rattle.fence_records.proofs.checking.audit_value.Goals as goal

pub fences_right-requires : goal.fences_right-requires
fences_right-requires c =
    let a = c.args in
    let listed = c.audit_lists in
    fences_ask a.sizes a.words.now a.fences.now a.issued a.value a.taken.now c.requires.0
    listed.result listed.new.taken listed.ensures c.if-not-audit_lists.false

pub returns-then-not-audit_lists : goal.returns-then-not-audit_lists
returns-then-not-audit_lists c =
    let a = c.args in
    let listed = c.audit_lists in
    lists_fail a.sizes a.words.now a.fences.now a.issued a.value a.taken.now c.requires.0
    listed.result listed.new.taken listed.ensures c.if-not-audit_lists.true

pub returns : goal.returns
returns c =
    let a = c.args in
    let listed = c.audit_lists in
    fences_tell a.sizes a.words.now a.fences.now a.issued a.value a.taken.now c.requires.0
    listed.result listed.new.taken listed.ensures c.if-not-audit_lists.false c.fences_right.result c.fences_right.ensures
