-- `copy` writes a list over the front of the output: after i turns the first i words are the list's, and the others are as they were.
use mathlib.Core.Path.{refl}
use native.Mathlib.Omega.{arith}
use lib.ListN.{length-set}
use lib.Seq.{paste-zero}
use Rattle.groups.proofs.Sets.{copies, copied}
use Rattle.words.proofs.writer.copy.Goals as goal

pub loop-i-init : goal.loop-i-init
loop-i-init c = (refl, paste-zero c.args.out.now 0 c.args.list.now)

pub loop-i-preserved : goal.loop-i-preserved
loop-i-preserved c =
    let l = c.loop-i in
    let a = c.args in (
      simp length-set l.invariant.0,
      copies a.list.now a.out.now l.out l.i l.invariant.1 c.requires c.loop-i-test.true,
    )

pub returns : goal.returns
returns c =
    let l = c.loop-i in
    let a = c.args in
    copied a.list.now a.out.now l.out l.i l.invariant.1 (omega arith)
