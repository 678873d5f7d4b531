-- `locate_from` meets its contract. The loop's invariant: the word sought is the one that is found from the fence in hand on. Assumes nothing.
use mathlib.Core.Path.{refl, sym, ◌∙◌}
use native.Mathlib.Omega.{arith}
use lib.ListN.{length}
use Rattle.std.proofs.lemmas.Slice.{between_to_end}
use Rattle.block_read.proofs.fence.Steps.{span-lt, ends, covers, passes}
use Rattle.block_read.proofs.fence.locate_from.Goals as goal

pub loop-word-init : goal.loop-word-init
loop-word-init c =
    let list = c.args.list.now in
    let rest = between_to_end list c.args.fence.place (length list) (omega arith) in
    (omega arith, omega arith, rw rest refl)

pub overflow_add-next : goal.overflow_add-next
overflow_add-next c =
    omega (arith, c.span_of.ensures, span-lt)

pub returns-then-group-next : goal.returns-then-group-next
returns-then-group-next c =
    let near = rw c.span_of.ensures at c.if-group-next.true in
    sym (c.loop-word.invariant.2 ∙ covers _ c.loop-word.word-index _ _ _ (omega arith) near)

pub loop-word-preserved : goal.loop-word-preserved
loop-word-preserved c =
    let wide = c.span_of.ensures in
    let far = rw wide at c.if-group-next.false in
    (omega arith, omega arith, rw wide (c.loop-word.invariant.2 ∙ passes _ c.loop-word.word-index _ _ _ (omega arith) far))

pub returns : goal.returns
returns c = sym (c.loop-word.invariant.2 ∙ ends _ c.loop-word.word-index _ _ _ (omega arith))
