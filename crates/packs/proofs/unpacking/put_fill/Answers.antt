-- `put_fill` meets its contract. The loop's invariant: the first i bytes are the bit. Assumes nothing.
use mathlib.Core.Path.{◌≡◌, refl, ◌∙◌, sym}
use native.Mathlib.Omega.{arith}
use lib.ListN.{length, length-set}
use lib.Seq.{take_all}
use Rattle.packs.proofs.unpacking.WordRows.{one_more}
use Rattle.packs.proofs.unpacking.put_fill.Goals as goal

pub loop-row-init : goal.loop-row-init
loop-row-init c = (refl, refl)

pub loop-row-preserved : goal.loop-row-preserved
loop-row-preserved c =
    let bit = c.args.bit in
    let l = c.loop-row in
    (length-set l.out l.row-index bit ∙ l.invariant.0, one_more l.out l.row-index bit (omega arith) l.invariant.1)

pub returns : goal.returns
returns c =
    let l = c.loop-row in
    let e : l.row-index ≡ length l.out = omega arith in
    sym (take_all l.row-index l.out (omega arith)) ∙ l.invariant.1 ∙ rw (e, l.invariant.0) refl
