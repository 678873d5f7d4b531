-- `put_value` writes the value, its words and a newline, each after the one before.
use mathlib.Core.Path.{◌≡◌, ap, ◌∙◌}
use native.Mathlib.Omega.{arith}
use lib.ListN.{length}
use lib.Seq.{length-sets}
use Rattle.digits.specs.Digits.{hex_digits}
use Rattle.print.specs.Text.{hex_words, value_line}
use Rattle.print.proofs.Stores.{line_put, length-words, length-value}
use Rattle.print.proofs.text.put_value.Goals as goal

pub put_digits-digits-requires : goal.put_digits-digits-requires
put_digits-digits-requires c =
    (omega arith, omega (arith, length-value c.args.value c.args.list.now, c.requires))

pub put_words-words-requires : goal.put_words-words-requires
put_words-words-requires c =
    let valued : length c.put_digits-digits.new.out ≡ length c.args.out.now = ap length c.put_digits-digits.ensures.1 ∙ simp length-sets in
    let list = c.args.list.now in
    omega (arith, length-value c.args.value list, length-words list, c.requires, c.put_digits-digits.ensures.0, valued)

pub put_newline-requires : goal.put_newline-requires
put_newline-requires c =
    let valued : length c.put_digits-digits.new.out ≡ length c.args.out.now = ap length c.put_digits-digits.ensures.1 ∙ simp length-sets in
    let listed : length c.put_words-words.new.out ≡ length c.put_digits-digits.new.out = ap length c.put_words-words.ensures.1 ∙ simp length-sets in
    let list = c.args.list.now in
    omega (
      arith,
      length-value c.args.value list,
      length-words list,
      c.requires,
      c.put_digits-digits.ensures.0,
      c.put_words-words.ensures.0,
      valued,
      listed,
    )

pub returns : goal.returns
unfolding value_line
returns c =
    let newline = c.put_newline in
    let words = c.put_words-words in
    let value = c.put_digits-digits in
    line_put c.args.out.now c.args.at (hex_digits 2 c.args.value) (hex_words c.args.list.now)
    value.new.out words.new.out newline.new.out value.result words.result newline.result
    value.ensures.0 value.ensures.1 words.ensures.0 words.ensures.1 newline.ensures.0 newline.ensures.1
