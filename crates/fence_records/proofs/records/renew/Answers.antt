-- `renew`: each round finds the next fence from the one before and writes it.
use Rattle.std.proofs.Common.{refl}
use Rattle.blocks.proofs.Opened.{fences_counted}
use Rattle.fence_records.proofs.records.Rounds.{below, goes_on, makes, all_made}
use Rattle.fence_records.proofs.records.renew.Goals as goal

pub loop-j-init : goal.loop-j-init
loop-j-init c = (c.first_word-fence.ensures, refl)

pub find_fence-fence-requires : goal.find_fence-fence-requires
find_fence-fence-requires c =
    let a = c.args in
    let inside = c.requires.0 in
    (inside.inside, c.requires.1, below a.words.now a.fences.now a.value inside (fences_counted c.sizes.view_is c.sizes.invariant) c.loop-j.j c.loop-j-test.true, c.loop-j.invariant.0)

pub loop-j-preserved : goal.loop-j-preserved
loop-j-preserved c =
    let a = c.args in
    let loop = c.loop-j in
    let found = c.find_fence-fence in (
      goes_on a.words.now a.fences.now a.value c.requires.0 (fences_counted c.sizes.view_is c.sizes.invariant) loop.j found.result found.ensures,
      makes a.words.now a.fences.now a.value c.requires.0 (fences_counted c.sizes.view_is c.sizes.invariant) loop.j loop.record-items loop.auto.record-items loop.invariant.1
          c.loop-j-test.true found.result found.ensures,
    )

pub returns : goal.returns
returns c =
    let a = c.args in
    let loop = c.loop-j in
    all_made a.words.now a.fences.now a.value c.requires.0 (fences_counted c.sizes.view_is c.sizes.invariant) loop.j loop.record-items loop.auto.record-items loop.invariant.1
    loop.auto.j-end c.loop-j-test.false
