-- `mark_lists` meets its contract. The loop's invariant: the groups before `group` are marked, and `v` and `u` are the words that cover `group`.
-- Assumes nothing.
use Prim.Native.Nat.{◌-◌}
use Rattle.dump_spans.specs.Inner.{in_lists}
use Rattle.dump_spans.proofs.span.Spanning.{Spanning}
use Rattle.dump_spans.proofs.span.Reaching.{Reached}
use Rattle.dump_spans.proofs.span.mark_lists.Given as goal

abbrev pub invariant-loop-span : goal.invariant-loop-span
invariant-loop-span l =
    Spanning (in_lists l.fn.sizes l.list l.update l.first) l.span.issued l.span.value l.span.from l.span.to l.initial.rows l.rows l.group
    × Reached l.fn.sizes l.list l.update l.first l.span.to l.group l.v l.u

abbrev pub decreases-loop-span : goal.decreases-loop-span
decreases-loop-span l = l.span.to - l.group
