-- `read_column` writes the column row by row: after some turns so many of its bytes stand in front.
use Rattle.std.specs.Slice.Iter.{chunks_exact_rest, chunks_exact_size}
use Rattle.std.specs.Iterator.Adapters.{enumerate_source, enumerate_count}
use Rattle.print.proofs.Frames.{Reading}
use Rattle.print.proofs.frame.read_column.Given as goal

abbrev pub invariant-loop-row : goal.invariant-loop-row
invariant-loop-row l =
    let pairs = enumerate_source l.row-iterator in
    Reading l.digits l.initial.column l.column (chunks_exact_rest pairs) (chunks_exact_size pairs) (enumerate_count l.row-iterator)
