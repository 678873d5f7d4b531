-- `word_before` meets its contract: a place after the first is one more than the place read. Assumes nothing.
use Rattle.list_check.proofs.check.Pass.{one-before}
use Rattle.list_check.proofs.check.word_before.Goals as goal

pub returns-else-i-eq0 : goal.returns-else-i-eq0
returns-else-i-eq0 c =
    let a = c.args in
    one-before a.list.now a.i c.if-i-eq0.false
