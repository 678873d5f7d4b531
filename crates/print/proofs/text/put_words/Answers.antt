-- `put_words` writes one word a turn: what is left to write gives the whole text.
use mathlib.Core.Path.{◌≡◌, refl, ◌∙◌, ap}
use native.Mathlib.Omega.{arith}
use lib.ListN.{length}
use lib.Seq.{length-sets, drop-length}
use Rattle.print.proofs.Stores.{length-words, word_put}
use Rattle.print.proofs.text.put_words.Goals as goal

pub loop-word-init : goal.loop-word-init
loop-word-init c = (omega arith, refl, omega (arith, length-words c.args.list.now, c.requires), refl)

pub put_digits-next-requires : goal.put_digits-next-requires
put_digits-next-requires c = (omega arith, omega arith)

pub loop-word-preserved : goal.loop-word-preserved
loop-word-preserved c =
    let digits = c.put_digits-next in
    let loop = c.loop-word in
    let list = c.args.list.now in (
      omega (arith, digits.ensures.0, loop.invariant.0),
      ap length digits.ensures.1 ∙ simp length-sets loop.invariant.1,
      loop.invariant.2,
      rw (digits.ensures.1, digits.ensures.0) (word_put loop.out list loop.next loop.word-index (omega arith) ∙ loop.invariant.3),
    )

pub shape_of-out : goal.shape_of-out
shape_of-out c = c.loop-word.invariant.1

pub returns : goal.returns
returns c =
    let loop = c.loop-word in
    let list = c.args.list.now in
    let all : loop.word-index ≡ length list = omega arith in
    (omega (arith, length-words list), rw (all, drop-length) at loop.invariant.3)
