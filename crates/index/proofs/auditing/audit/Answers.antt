-- `audit`: the entry refuses, or everything is looked at.
use mathlib.Core.Path.{sym, ◌∙◌}
use Rattle.std.proofs.lemmas.Result.{err_from_is_err_and}
use Rattle.index.proofs.auditing.Exits.{audit_stops, audit_planned}
use Rattle.index.proofs.auditing.audit.Goals as goal

pub audit_index-requires : goal.audit_index-requires
audit_index-requires c =
    audit_planned c.args.words.now c.args.fences.now c.args.header c.in_ok-sizes.sizes c.in_ok-sizes.ensures

pub returns-in_err-sizes : goal.returns-in_err-sizes
returns-in_err-sizes c =
    let a = c.args in
    let p = err_from_is_err_and c.from_residual.result c.from_residual.ensures.1 in
    rw (p.1, p.2) (audit_stops a.words.now a.fences.now a.header _ (sym c.in_err-sizes.was ∙ c.enter_index.ensures))
