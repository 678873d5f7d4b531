-- `turn_over_groups` meets its contract. The loop's invariant is `Turning`: the groups of the words read are turned over.
use Rattle.lists.proofs.loose.Turning.{now_small, word_fits, next_word}
use Rattle.lists.proofs.loose.turn_over_groups.Goals as goal

pub turn_over_word-at-requires : goal.turn_over_word-at-requires
turn_over_word-at-requires c =
    let k = c.loop-word.invariant in
    (now_small k c.requires.1 c.requires.0, word_fits k c.requires.1 c.loop-word-test.true)

pub loop-word-preserved : goal.loop-word-preserved
loop-word-preserved c =
    let word = c.turn_over_word-at in
    rw word.ensures.0 (next_word c.loop-word.invariant c.requires.1 c.loop-word-test.true word.new.groups word.ensures.1)
