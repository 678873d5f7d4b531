-- `keeps_form` meets its contract, by what the pass over the words has shown. Assumes nothing.
use Rattle.std.proofs.Common.{arith}
use Rattle.list_check.proofs.check.Pass.{not_kept, kept}
use Rattle.list_check.proofs.check.keeps_form.Goals as goal

pub returns-then-shown-ge-TOO_MANY : goal.returns-then-shown-ge-TOO_MANY
returns-then-shown-ge-TOO_MANY c = not_kept c.pass_from-shown.ensures (omega arith) c.args.groups (omega arith) c.if-shown-ge-TOO_MANY.true

pub returns : goal.returns
returns c = kept c.pass_from-shown.ensures (omega arith) c.args.groups c.if-shown-ge-TOO_MANY.false
