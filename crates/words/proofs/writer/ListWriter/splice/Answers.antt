-- `splice` writes the word of a run that ended, and copies words behind it.
use mathlib.Core.Path.{refl}
use Rattle.words.proofs.Writing.{spliced}
use Rattle.words.proofs.writer.ListWriter.splice.Goals as goal

pub returns-clause-splices : goal.returns-clause-splices
returns-clause-splices c =
    let made = spliced _ _ _ _ _ _ _ c.requires.2 c.finish-start.ensures c.copy.ensures in
    (made.0, made.1, refl)
