-- `store` writes none, one or two words, case by case.
use mathlib.Core.Path.{◌≡◌, refl}
use native.Mathlib.Omega.{arith}
use native.Mathlib.Numerals.{add-one}
use lib.ListN.{length-set}
use Rattle.words.proofs.writer.store.Goals as goal

pub returns-then-words-eq1 : goal.returns-then-words-eq1
returns-then-words-eq1 c = (omega arith, rw c.if-words-eq1.true refl)

pub bounds-out-at-2 : goal.bounds-out-at-2
bounds-out-at-2 c = simp length-set (omega arith)

pub returns : goal.returns
returns c =
    let e : c.args.step.words ≡ 2 = omega arith in
    (omega arith, rw (e, add-one) refl)
