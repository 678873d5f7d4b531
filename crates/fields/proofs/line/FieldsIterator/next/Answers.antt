-- `next`: the spaces before the next field, and the bytes up to the space after it.
use Rattle.std.proofs.Common.{ℕ, ◌==◌, length, not, refl, ap, arith, rules, Some}
use Rattle.std.proofs.lemmas.List.Sums.{position_or_len_is}
use Rattle.fields.proofs.Splitting.{no_field, a_field}
use Rattle.fields.proofs.line.FieldsIterator.next.Goals as goal

pub returns-in_err-from-clause-steps : goal.returns-in_err-from-clause-steps
returns-in_err-from-clause-steps c =
    let line = c.args.self.now.line.now in
    let none = no_field line (position_or_len_is (λ (byte : ℕ). not (byte == 32)) line (length line) 0 (omega arith) (search rules) (search rules)) in
    rw (c.from_residual.ensures, none) (refl, refl)

pub returns-clause-steps : goal.returns-clause-steps
returns-clause-steps c =
    let line = c.args.self.now.line.now in
    let rest = c.split_at.result.1.now in
    let from = c.in_ok-from.from in
    let found = a_field line from (search rules) (position_or_len_is (λ (byte : ℕ). not (byte == 32)) line from 0 (search rules) (search rules) (search rules)) in
    let len = position_or_len_is (λ (byte : ℕ). byte == 32) rest c.unwrap_or-len.result 0 (search rules) (search rules) (search rules) in
    rw (found, ← c.split_at.ensures.back, len) (ap Some c.split_at-2.ensures.front, c.split_at-2.ensures.back)
