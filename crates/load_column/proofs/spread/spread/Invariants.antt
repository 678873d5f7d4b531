-- `spread` meets its contract: the blocks are cleared, and then its loop keeps `Spreading`. Assumes nothing.
use Rattle.std.proofs.Common.{◌≡◌, ℕ, ◌+◌, drop}
use Rattle.std.specs.Iterator.Adapters.{enumerate_count, enumerate_source}
use Rattle.std.specs.Slice.Iter.{chunks_rest, chunks_size}
use Rattle.load_column.proofs.spread.Spreading.{Spreading}
use Rattle.load_column.proofs.spread.spread.Given as goal

abbrev pub invariant-loop-group : goal.invariant-loop-group
invariant-loop-group l =
    goal.iterator-loop-group.can_next l.group-iterator
    × goal.iterator-loop-group.is_finite l.group-iterator
    × (chunks_size (enumerate_source l.group-iterator) ≡ 31)
    × ((at : ℕ) × (chunks_rest (enumerate_source l.group-iterator) ≡ drop at l.column)
    × Spreading l.block l.values l.column l.initial.words l.words (2 + enumerate_count l.group-iterator) at)
