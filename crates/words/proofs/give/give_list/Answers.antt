-- `give_list` meets its contract, an exit at a time. Assumes nothing.
use mathlib.Core.Path.{refl}
use Rattle.answers.proofs.Given.{too_long, fits}
use Rattle.words.proofs.give.give_list.Goals as goal

pub returns-then-out-list : goal.returns-then-out-list
returns-then-out-list c =
    let a = c.args in
    too_long a.list.now a.out.now c.if-out-list.true

pub returns : goal.returns
returns c =
    let a = c.args in
    let copied = c.copy in
    fits a.list.now a.out.now c.if-out-list.false _ copied.new.out refl copied.ensures
