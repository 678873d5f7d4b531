-- `pass_from` meets its contract. The loop's invariant is `PassedTo`: what the bits and the sum say of the words read. Assumes nothing.
use Rattle.std.proofs.Common.{◌≡◌, ◌+◌, ◌-◌, ◌%◌, get_or, arith}
use Rattle.list_check.proofs.check.Pass.{one-before, next_word, at_end}
use Rattle.list_check.proofs.check.pass_from.Goals as goal

pub returns-then-list-from : goal.returns-then-list-from
returns-then-list-from c = at_end c.requires.0 c.if-list-from.true

pub loop-i-init : goal.loop-i-init
loop-i-init c =
    let before = c.word_before in
    let first = c.excess_of-first in
    let same : (0 + first.result) % 0x100000000 ≡ first.result = omega arith in (
      rw same at (next_word c.requires.0 (omega arith) (omega arith) before.result first.result before.ensures first.ensures),
      omega arith,
    )

pub overflow_sub-i : goal.overflow_sub-i
overflow_sub-i c = omega (arith, c.loop-i.invariant.1)

pub loop-i-preserved : goal.loop-i-preserved
loop-i-preserved c =
    let list = c.args.list.now in
    let loop = c.loop-i in
    let excess = c.excess_of-excess in (
      rw c.wrapping_add_u32-covered.ensures.value
          (next_word loop.invariant.0 (omega arith) (omega arith) (get_or list (loop.i - 1) 0) excess.result (one-before list loop.i (λ e. omega (arith, loop.invariant.1))) excess.ensures),
      omega arith,
    )

pub returns : goal.returns
returns c = at_end c.loop-i.invariant.0 c.loop-i-test.false
