-- `mixed_front` meets its contract: a stride that is mixed adds nothing. The loop's invariant is `PassedTo`, and which words are left. Assumes nothing.
use Rattle.std.proofs.Common.{◌≡◌, drop}
use Rattle.std.specs.Slice.Iter.{chunks_rest, chunks_size}
use Rattle.list_check.specs.Inner.{PassedTo}
use Rattle.list_check.proofs.check.mixed_front.Given as goal

abbrev pub invariant-loop-stride : goal.invariant-loop-stride
invariant-loop-stride l =
    record {
      passed : PassedTo l.list 0 0 l.place;
      left : chunks_rest l.stride-iterator ≡ drop l.place l.list;
      size : chunks_size l.stride-iterator ≡ 64;
    }
