-- `put_whole` meets its contract: one word where 0 stands, or none. Assumes nothing.
use Rattle.std.proofs.Common.{arith}
use Rattle.blocks.proofs.SizeLaws.{place-fits}
use Rattle.load_column.proofs.spread.Placing.{place-whole, place_nowhere}
use Rattle.load_column.proofs.spread.put_whole.Goals as goal

pub returns-then-value-values : goal.returns-then-value-values
returns-then-value-values c =
    let fits = place-fits c.args.block c.args.byte c.args.values (omega arith) in
    rw c.from-value.ensures
    (place-whole c.args.byte c.args.words.now c.requires.0 c.requires.2 (omega arith) (omega (arith, fits)))

pub returns-else-value-values : goal.returns-else-value-values
returns-else-value-values c = place_nowhere c.args.byte c.args.words.now c.requires.0 c.requires.2 (omega arith)
