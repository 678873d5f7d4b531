-- `step_literal` takes in a group that is not uniform: after no run, and after one, which it ends.
use mathlib.Core.Path.{refl, ◌∙◌}
use native.Mathlib.Omega.{arith}
use borrow.Author.Rules.{rules}
use Rattle.words.proofs.Runs.{ends_run, literal_word}
use Rattle.words.proofs.writer.step_literal.Goals as goal

pub returns-then-pending-eq0 : goal.returns-then-pending-eq0
returns-then-pending-eq0 c =
    record {
      law = λ rest. rw c.if-pending-eq0.true (literal_word c.args.group rest c.requires.2 c.requires.3);
      few = search rules;
      is_bit = search rules;
      grows = search rules;
    }

pub returns : goal.returns
returns c =
    let p = c.args.pending in
    record {
      law = λ rest.
          ends_run p.bit p.count c.args.group rest (omega arith) (omega arith) (λ e. omega arith)
          ∙ rw (literal_word c.args.group rest c.requires.2 c.requires.3, c.fill_word-word.ensures) refl;
      few = search rules;
      is_bit = search rules;
      grows = search rules;
    }
