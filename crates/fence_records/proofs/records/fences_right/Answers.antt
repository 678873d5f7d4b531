-- `fences_right`: the first record that is wrong ends it.
use Rattle.blocks.proofs.Opened.{fences_counted}
use Rattle.fence_records.proofs.records.Rounds.{below, goes_on, none_wrong, right_so_far, wrong_here, all_compared}
use Rattle.fence_records.proofs.records.fences_right.Goals as goal

pub loop-j-init : goal.loop-j-init
loop-j-init c =
    let a = c.args in
    (c.first_word-fence.ensures, none_wrong a.words.now a.fences.now a.value c.requires.0 (fences_counted c.sizes.view_is c.sizes.invariant))

pub find_fence-fence-requires : goal.find_fence-fence-requires
find_fence-fence-requires c =
    let a = c.args in
    let inside = c.requires.0 in
    (inside.inside, c.requires.1, below a.words.now a.fences.now a.value inside (fences_counted c.sizes.view_is c.sizes.invariant) c.loop-j.j c.loop-j-test.true, c.loop-j.invariant.0)

pub returns-then-ne : goal.returns-then-ne
returns-then-ne c =
    let a = c.args in
    let found = c.find_fence-fence in
    wrong_here a.words.now a.fences.now a.value c.requires.0 (fences_counted c.sizes.view_is c.sizes.invariant) c.loop-j.j c.loop-j-test.true found.result found.ensures
    c.ne.result c.ne.ensures c.if-ne.true

pub loop-j-preserved : goal.loop-j-preserved
loop-j-preserved c =
    let a = c.args in
    let loop = c.loop-j in
    let found = c.find_fence-fence in (
      goes_on a.words.now a.fences.now a.value c.requires.0 (fences_counted c.sizes.view_is c.sizes.invariant) loop.j found.result found.ensures,
      right_so_far a.words.now a.fences.now a.value c.requires.0 (fences_counted c.sizes.view_is c.sizes.invariant) loop.j c.loop-j-test.true found.result found.ensures
          c.ne.result c.ne.ensures c.if-ne.false loop.invariant.1,
    )

pub returns : goal.returns
returns c =
    let a = c.args in
    all_compared a.words.now a.fences.now a.value c.requires.0 (fences_counted c.sizes.view_is c.sizes.invariant) c.loop-j.j c.loop-j.invariant.1 c.loop-j-test.false
