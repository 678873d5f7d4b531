-- `next_copy` copies nothing, or the words that `reach_of` passes after a run that ends there.
use mathlib.Core.Path.{◌∙◌, sym}
use native.Mathlib.Omega.{arith}
use Rattle.words.proofs.Forms.{length_split}
use Rattle.combinations.proofs.span.Opening.{length-remaining}
use Rattle.combinations.proofs.copying.Passing.{all-behind, copies_some}
use Rattle.combinations.proofs.copying.next_copy.Goals as goal

pub reach_of-reach-requires : goal.reach_of-reach-requires
reach_of-reach-requires c =
    let list = c.args.list.now in
    let next = c.args.from.next in
    rw (all-behind list next) (
      c.requires.2,
      omega (arith, c.requires.3, length-remaining list c.args.from, c.if-from-ne0.false),
      omega (arith, c.requires.1, length_split list next),
    )

pub returns : goal.returns
returns c =
    let a = c.args in
    copies_some a.list.now a.from a.other a.pending c.requires.4 c.requires.2 c.requires.5 (λ i. omega (arith, c.type_inv.list i)) c.requires.0
    c.if-from-ne0.false c.if-other-ne0.false
    (rw (← c.group_in.ensures) (sym c.goes_on.ensures ∙ c.if-goes_on.false))
    c.reach_of-reach.result (rw (all-behind a.list.now a.from.next) at c.reach_of-reach.ensures)
