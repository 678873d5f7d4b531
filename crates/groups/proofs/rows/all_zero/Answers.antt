-- `all_zero`: the words are 0 where the bits gathered so far are and the words still to come are 0. Assumes nothing.
use mathlib.Core.Path.{◌∙◌}
use Rattle.groups.proofs.Zeros.{gathered-more}
use Rattle.groups.proofs.rows.all_zero.Goals as goal

pub loop-word-preserved : goal.loop-word-preserved
loop-word-preserved c =
    let loop = c.loop-word in
    loop.invariant ∙ gathered-more c.args.words.now loop.gathered loop.word-index c.loop-word-test.true
