-- `xor_into` writes the XOR of two lists. The loop's invariant is `Combining`: the first `done` groups of both lists are combined and, but for
-- what is pending, written. A turn copies words of the left list and takes a step after them. The measure is how many groups are left.
use mathlib.Core.Path.{◌≡◌, ◌∙◌}
use mathlib.Core.List.{List}
use Prim.Native.Nat.{ℕ, min}
use native.Mathlib.Nat.{add_assoc}
use native.Mathlib.Omega.{arith}
use lib.Bits.{bit_xor}
use Rattle.std.proofs.Common.{rules}
use Rattle.words.specs.declared.writer.ListWriter.{ListWriter}
use Rattle.lists.specs.Combine.{exclusive}
use Rattle.combinations.specs.Inner.{shorter, past, Opened, Copies}
use Rattle.combinations.specs.declared.span.Span.{Span}
use Rattle.combinations.specs.declared.copying.Copying.{Copying}
use Rattle.lists.proofs.Operations.{xor-on_group, exclusive_bits}
use Rattle.combinations.proofs.combine.Copied.{splice_on, still_opened}
use Rattle.combinations.proofs.combine.Spans.{Combining, combining_ends, Turn, turn_some, turn_near, turn_alone, turn_fits, turn_on}
use Rattle.combinations.proofs.combine.xor_into.Goals as goal

-- what a turn takes after the words that it copies
turned : {left right out₀ : List ℕ} {groups done count : ℕ} {list : ListWriter} {from-left from-right ahead moved x y : Span} {copying : Copying}
    → Combining exclusive left right groups out₀ list from-left from-right done → Opened right from-right ahead
    → Copies left from-left ahead list.pending copying → moved ≡ past from-left copying.words → Opened left moved x
    → y ≡ shorter ahead copying.groups → count ≡ min x.left y.left
    → Turn exclusive left right (past from-left copying.words) (shorter ahead copying.groups) x y (bit_xor x.group y.group) count
turned k opens copies moves opens-left shortens shortest =
    let still = still_opened k opens copies _ shortens in
    record {
      opens_left = rw (← moves) opens-left;
      opens_right = still;
      makes = xor-on_group _ _ opens-left.small still.small;
      shortest = shortest;
    }

pub push-requires : goal.push-requires
push-requires c =
    let k = c.loop-done.invariant.combining in
    let copies = c.next_copy-copying.ensures in
    let now = splice_on k c.opened-ahead.ensures copies c.splice.new.self c.splice.ensures.splices in
    let turn = turned k c.opened-ahead.ensures copies c.moved.ensures c.opened-x.ensures c.shortened-y.ensures c.common-count.ensures in
    (turn_some now turn, turn_alone now turn exclusive_bits, turn_fits now turn c.requires.2)

pub overflow_add-done-in-loop-done : goal.overflow_add-done-in-loop-done
overflow_add-done-in-loop-done c =
    let k = c.loop-done.invariant.combining in
    let copies = c.next_copy-copying.ensures in
    let now = splice_on k c.opened-ahead.ensures copies c.splice.new.self c.splice.ensures.splices in
    let turn = turned k c.opened-ahead.ensures copies c.moved.ensures c.opened-x.ensures c.shortened-y.ensures c.common-count.ensures in
    omega (arith, turn_near now turn, c.requires.2)

pub loop-done-preserved : goal.loop-done-preserved
loop-done-preserved c =
    let k = c.loop-done.invariant.combining in
    let copies = c.next_copy-copying.ensures in
    let now = splice_on k c.opened-ahead.ensures copies c.splice.new.self c.splice.ensures.splices in
    let turn = turned k c.opened-ahead.ensures copies c.moved.ensures c.opened-x.ensures c.shortened-y.ensures c.common-count.ensures in
    let sum = add_assoc c.loop-done.done c.next_copy-copying.result.groups c.common-count.result in
    record {
      combining = rw (c.shortened-from_left.ensures, c.shortened-from_right.ensures, ← sum) (turn_on now turn c.push.ensures.follows);
      same_reference = cc;
    }

pub returns : goal.returns
returns c =
    let e = c.finish.ensures in
    let end = combining_ends c.loop-done.invariant.combining (omega arith) in
    (e.0 ∙ end.0, search (rules, e, end))
