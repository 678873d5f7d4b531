-- `put_groups` meets its contract: after so many turns the groups of as many values are put. Assumes nothing.
use Rattle.std.proofs.Common.{◌≡◌, ◌+◌, ◌*◌, ◌<◌, get_or, refl, arith, length-take, get_or-take}
use Rattle.blocks.proofs.SizeLaws.{place-fits}
use Rattle.load_column.proofs.spread.Placing.{place_none, place-more}
use Rattle.load_column.proofs.spread.put_groups.Goals as goal

pub loop-value-init : goal.loop-value-init
loop-value-init c = place_none c.args.block c.args.place (λ v. get_or c.args.groups.now v 0) c.args.words.now

pub loop-value-preserved : goal.loop-value-preserved
loop-value-preserved c =
    let loop = c.loop-value in
    let below : loop.value < c.args.values = omega (arith, length-take c.args.values c.args.groups.now) in
    let fits = place-fits c.args.block loop.value c.args.values below in
    place-more loop.invariant (omega arith) (loop.value * c.args.block + c.args.place) refl (omega (arith, fits)) _
    (get_or-take c.args.values c.args.groups.now loop.value 0 below)

pub returns : goal.returns
returns c =
    let all : c.loop-value.value ≡ c.args.values = omega (arith, length-take c.args.values c.args.groups.now) in
    rw all at c.loop-value.invariant
