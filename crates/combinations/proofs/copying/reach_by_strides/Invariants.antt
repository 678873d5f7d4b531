-- `reach_by_strides` passes strides of words while they end before the last of the zeros. The loop's invariant: the words passed reach so far, and which words are left.
use mathlib.Core.Path.{◌≡◌}
use lib.ListN.{drop}
use Rattle.std.specs.Slice.Iter.{chunks_exact_rest, chunks_exact_size}
use Rattle.combinations.specs.Inner.{Reaches}
use Rattle.combinations.proofs.copying.reach_by_strides.Given as goal

abbrev pub invariant-loop-stride : goal.invariant-loop-stride
invariant-loop-stride l =
    record {
      reaches : Reaches l.list l.zeros l.reach;
      left : chunks_exact_rest l.stride-iterator ≡ drop l.reach.words l.list;
      size : chunks_exact_size l.stride-iterator ≡ 16;
    }
