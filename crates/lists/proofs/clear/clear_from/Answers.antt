-- `clear_from` meets its contract. The loop's invariant is `ZerosFrom`: the words that are passed are all zero.
use mathlib.Core.Path.{◌∙◌, sym}
use Rattle.std.proofs.lemmas.List.{length_push}
use Rattle.lists.proofs.clear.Ends.{ends, last_fits, passes, decides, read_back, read_all}
use Rattle.lists.proofs.clear.clear_from.Goals as goal

pub returns-then-group-ne0 : goal.returns-then-group-ne0
returns-then-group-ne0 c =
    let here = read_back c.args.list.now _ _ _ _ _ _ (cc) c.loop-word.yielded_by c.in-Some.is c.next.ensures.steps in
    let group = c.group_in-group.ensures in
    rw group (decides c.args.list.now c.args.row _ _ _ c.loop-word.invariant here c.requires.0.filled (λ e. c.if-group-ne0.true (group ∙ e)))

pub overflow_sub-end : goal.overflow_sub-end
overflow_sub-end c =
    let here = read_back c.args.list.now _ _ _ _ _ _ (cc) c.loop-word.yielded_by c.in-Some.is c.next.ensures.steps in
    rw c.span_of-end.ensures (last_fits c.args.list.now c.args.row _ _ _ c.loop-word.invariant here)

pub loop-word-preserved : goal.loop-word-preserved
loop-word-preserved c =
    let here = read_back c.args.list.now _ _ _ _ _ _ (cc) c.loop-word.yielded_by c.in-Some.is c.next.ensures.steps in
    rw (c.span_of-end.ensures, length_push) (passes c.args.list.now c.args.row _ _ _ c.loop-word.invariant here (sym c.group_in-group.ensures ∙ c.if-group-ne0.false))

pub returns : goal.returns
returns c = ends c.args.list.now c.args.row _ _ c.loop-word.invariant (read_all c.args.list.now _ _ _ _ _ (cc) c.loop-word.yielded_by c.in-None.is c.next.ensures.steps)
