-- `finish` writes the word of the run that is pending, if there is one.
use mathlib.Core.Path.{refl}
use native.Mathlib.Omega.{arith}
use native.Mathlib.Nat.{add-zero}
use Rattle.words.proofs.Runs.{last-run}
use Rattle.words.proofs.writer.finish.Goals as goal

pub returns-then-pending-eq0 : goal.returns-then-pending-eq0
returns-then-pending-eq0 c = rw (c.if-pending-eq0.true, add-zero) (refl, refl)

pub bounds-out-at : goal.bounds-out-at
bounds-out-at c =
    let p = c.args.pending in
    omega (arith, rw (last-run p.bit p.count (omega arith) (omega arith)) at c.requires.2)

pub returns : goal.returns
returns c =
    let p = c.args.pending in
    rw (last-run p.bit p.count (omega arith) (omega arith), c.fill_word.ensures) (refl, refl)
