-- `mixed_front` meets its contract: a stride that is mixed adds nothing. The loop's invariant is `PassedTo`, and which words are left. Assumes nothing.
use Rattle.std.proofs.Common.{◌≡◌, ◌++◌, drop, sym, ◌∙◌}
use Rattle.std.specs.Slice.Iter.{chunks_rest}
use Rattle.list_check.proofs.check.Pass.{begin, mixed_part, behind_part}
use Rattle.list_check.proofs.check.mixed_front.Goals as goal
use Rattle.list_check.proofs.check.mixed_front.Goals.{Else-not-all_mixed}

-- what is left begins with the stride at hand
next_stride : (c : Else-not-all_mixed) → drop c.loop-stride.place c.args.list.now ≡ c.in-Some.stride.now ++ chunks_rest c.next.new.self
next_stride c = sym c.loop-stride.invariant.left ∙ c.in-Some.ensures.steps.1.0

pub loop-stride-init : goal.loop-stride-init
loop-stride-init c = record { passed = begin c.args.list.now; left = cc; size = cc }

pub returns-then-not-all_mixed : goal.returns-then-not-all_mixed
returns-then-not-all_mixed c = c.loop-stride.invariant.passed

pub loop-stride-preserved : goal.loop-stride-preserved
loop-stride-preserved c =
    let list = c.args.list.now in
    let loop = c.loop-stride in
    record {
      passed = mixed_part list loop.place _ _ (next_stride c) loop.invariant.passed c.requires (c.all_mixed.ensures c.if-not-all_mixed.false);
      left = behind_part list loop.place _ _ (next_stride c);
      size = cc;
    }
