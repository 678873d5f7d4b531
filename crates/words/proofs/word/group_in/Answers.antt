-- `group_in` meets its contract, an arm at a time by what the word is read as. Assumes nothing.
use mathlib.Core.Path.{refl}
use Rattle.words.proofs.word.Reading.{reads_literal, reads_fill, told_fill, told_literal}
use Rattle.words.proofs.word.group_in.Goals as goal

pub returns-then-is_fill : goal.returns-then-is_fill
returns-then-is_fill c =
    let word = c.args.word in
    rw (reads_fill word (told_fill word c.is_fill.ensures c.if-is_fill.true), c.fill_bit.ensures) refl

pub returns-else-is_fill : goal.returns-else-is_fill
returns-else-is_fill c =
    let word = c.args.word in
    rw (reads_literal word (told_literal word c.is_fill.ensures c.if-is_fill.false)) refl
