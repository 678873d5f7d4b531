-- `step_fill` takes in uniform groups: after no run, after a run of their bit, which they lengthen, and after one of the other bit, which they end.
use mathlib.Core.Path.{refl, ap, ◌∙◌}
use native.Mathlib.Omega.{arith}
use lib.ListN.{length-replicate}
use borrow.Author.Rules.{rules}
use Rattle.words.specs.Words.{encode}
use Rattle.words.proofs.Runs.{joins, ends_uniform}
use Rattle.words.proofs.writer.step_fill.Goals as goal

pub returns-then-pending-eq0 : goal.returns-then-pending-eq0
returns-then-pending-eq0 c =
    record {
      law = λ rest. rw c.if-pending-eq0.true refl;
      few = search rules;
      is_bit = search rules;
      grows = simp length-replicate (omega arith);
    }

pub returns-then-pending-bit : goal.returns-then-pending-bit
returns-then-pending-bit c =
    let a = c.args in
    record {
      law = λ rest. rw c.if-pending-bit.true (ap encode (joins a.bit a.pending.count a.count rest));
      few = search rules;
      is_bit = search rules;
      grows = simp length-replicate (omega arith);
    }

pub returns : goal.returns
returns c =
    let a = c.args in
    let p = a.pending in
    record {
      law = λ rest.
          ends_uniform p.bit p.count a.bit a.count rest (omega arith) (omega arith) (omega arith) (omega arith) c.if-pending-bit.false
          ∙ rw c.fill_word-word.ensures refl;
      few = search rules;
      is_bit = search rules;
      grows = simp length-replicate (omega arith);
    }
