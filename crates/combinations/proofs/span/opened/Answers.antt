-- `opened` gives a span that has a group as it is; where the span is used up it opens the next word.
use Rattle.combinations.proofs.span.Opening.{opens}
use Rattle.combinations.proofs.span.opened.Goals as goal

pub returns : goal.returns
returns c =
    rw (c.group_in.ensures, c.span_of.ensures)
    (opens c.args.list.now c.args.span c.if-span-ne0.false c.requires.1 c.requires.0)
