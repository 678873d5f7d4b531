-- `put_refusal` writes the mark, the number and a newline, each after the one before.
use mathlib.Core.Path.{◌≡◌, ap, ◌∙◌}
use native.Mathlib.Omega.{arith}
use lib.ListN.{length}
use lib.Seq.{length-sets}
use Rattle.digits.specs.Digits.{hex_digits}
use Rattle.print.specs.Text.{refusal_line}
use Rattle.print.proofs.Stores.{line_put, length_refusal}
use Rattle.print.proofs.text.put_refusal.Goals as goal

pub put_digits-mark-requires : goal.put_digits-mark-requires
put_digits-mark-requires c = (omega arith, omega (arith, length_refusal c.args.number, c.requires))

pub put_digits-digits-requires : goal.put_digits-digits-requires
put_digits-digits-requires c =
    let marked : length c.put_digits-mark.new.out ≡ length c.args.out.now = ap length c.put_digits-mark.ensures.1 ∙ simp length-sets in
    (omega arith, omega (arith, length_refusal c.args.number, c.requires, c.put_digits-mark.ensures.0, marked))

pub put_newline-requires : goal.put_newline-requires
put_newline-requires c =
    let marked : length c.put_digits-mark.new.out ≡ length c.args.out.now = ap length c.put_digits-mark.ensures.1 ∙ simp length-sets in
    let numbered : length c.put_digits-digits.new.out ≡ length c.put_digits-mark.new.out =
    ap length c.put_digits-digits.ensures.1 ∙ simp length-sets in
    omega (arith, length_refusal c.args.number, c.requires, c.put_digits-mark.ensures.0, c.put_digits-digits.ensures.0, marked, numbered)

pub returns : goal.returns
unfolding refusal_line
returns c =
    let newline = c.put_newline in
    let digits = c.put_digits-digits in
    let mark = c.put_digits-mark in
    line_put c.args.out.now c.args.at (hex_digits 2 255) (hex_digits 2 c.args.number)
    mark.new.out digits.new.out newline.new.out mark.result digits.result newline.result
    mark.ensures.0 mark.ensures.1 digits.ensures.0 digits.ensures.1 newline.ensures.0 newline.ensures.1
