-- `pack_into` writes the list of the rows group by group: its loop keeps `Packing`, and writes behind the same reference.
use mathlib.Core.Path.{◌≡◌}
use Rattle.std.specs.Slice.Iter.{chunks_rest, chunks_size}
use Rattle.packs.proofs.packing.Loop.{Packing}
use Rattle.packs.proofs.packing.pack_into.Given as goal

abbrev pub invariant-loop-part : goal.invariant-loop-part
invariant-loop-part l =
    record {
      packing : Packing l.rows (chunks_rest l.part-iterator) l.fn.out l.list;
      size : chunks_size l.part-iterator ≡ 31;
      same_reference : l.list.out.ghost_name ≡ l.initial.list.out.ghost_name;
    }
