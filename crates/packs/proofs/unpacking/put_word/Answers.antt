-- `put_word` meets its contract, an arm at a time by what the word is read as. Assumes nothing.
use mathlib.Core.Path.{◌∙◌}
use lib.ListN.{length}
use Rattle.words.proofs.word.Reading.{reads_literal, told_fill, told_literal}
use Rattle.packs.proofs.unpacking.WordRows.{literal_rows, fill_rows}
use Rattle.packs.proofs.unpacking.put_word.Goals as goal

pub put_rows-requires : goal.put_rows-requires
put_rows-requires c =
    let word = c.args.word in
    let low = told_literal word c.is_fill.ensures c.if-is_fill.false in
    rw (reads_literal word low) at c.requires

pub returns-then-is_fill : goal.returns-then-is_fill
returns-then-is_fill c =
    let a = c.args in
    let room = c.requires in
    let test = c.is_fill in
    let high = told_fill a.word test.ensures c.if-is_fill.true in
    c.put_fill.ensures ∙ rw c.fill_bit.ensures (fill_rows (length a.out.now) a.word high room)

pub returns-else-is_fill : goal.returns-else-is_fill
returns-else-is_fill c =
    let a = c.args in
    let test = c.is_fill in
    let low = told_literal a.word test.ensures c.if-is_fill.false in
    c.put_rows.ensures ∙ literal_rows (length a.out.now) a.word low
