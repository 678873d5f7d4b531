-- `audit_index`: no row is taken at the start; a fault of a value is one of the index.
use Rattle.index.proofs.auditing.Exits.{audit_damaged, audit_done}
use Rattle.index.proofs.auditing.audit_index.Goals as goal

pub returns-then-not-audit_values : goal.returns-then-not-audit_values
returns-then-not-audit_values c =
    let told = c.audit_values in
    audit_damaged c.args.words.now c.args.fences.now c.args.header c.requires told.result told.ensures c.if-not-audit_values.true

pub returns : goal.returns
returns c =
    let told = c.audit_values in
    audit_done c.args.words.now c.args.fences.now c.args.header c.requires told.result told.ensures c.if-not-audit_values.false
