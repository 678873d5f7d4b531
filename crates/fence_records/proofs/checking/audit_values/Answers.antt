-- `audit_values`: each round looks at one value; the first fault ends it.
use Rattle.std.proofs.Common.{arith}
use Rattle.fence_records.proofs.checking.Rounds.{none_audited, value_asks, value_fails, value_audited, all_audited}
use Rattle.fence_records.proofs.checking.audit_values.Goals as goal

pub loop-value-init : goal.loop-value-init
loop-value-init c =
    none_audited c.args.words.now c.args.fences.now c.requires.0 c.args.taken.now c.requires.1

pub audit_value-requires : goal.audit_value-requires
audit_value-requires c =
    value_asks c.args.words.now c.args.fences.now c.requires.0 c.loop-value.value (omega arith) c.loop-value.taken c.loop-value.invariant

pub returns-then-not-audit_value : goal.returns-then-not-audit_value
returns-then-not-audit_value c =
    value_fails c.args.words.now c.args.fences.now c.requires.0 c.loop-value.value (omega arith) c.loop-value.taken c.loop-value.invariant
    c.audit_value.result c.audit_value.new.taken c.audit_value.ensures.0 c.if-not-audit_value.true

pub loop-value-preserved : goal.loop-value-preserved
loop-value-preserved c =
    value_audited c.args.words.now c.args.fences.now c.requires.0 c.loop-value.value (omega arith) c.loop-value.taken c.loop-value.invariant
    c.audit_value.result c.audit_value.new.taken c.audit_value.ensures.0 c.if-not-audit_value.false c.audit_value.ensures.1

pub returns : goal.returns
returns c =
    all_audited c.args.words.now c.args.fences.now c.requires.0 c.loop-value.value (omega arith) c.loop-value.taken c.loop-value.invariant
