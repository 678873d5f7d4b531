-- `flip_fenced`: the row is flipped, and the fences follow where that merges.
use Rattle.fence_records.proofs.changing.Steps.{flip_asks, flip_renews, flip_keeps}
use Rattle.fence_records.proofs.changing.flip_fenced.Goals as goal

pub renew-requires : goal.renew-requires
renew-requires c =
    let a = c.args in
    flip_asks a.sizes a.words.now a.fences.now a.value c.requires.0 c.requires.1
    c.flip_value.new.words c.flip_value.auto.words a.row c.requires.2 c.flip_value.ensures a.merges c.requires.3

pub returns-then-merges : goal.returns-then-merges
returns-then-merges c =
    let a = c.args in
    flip_renews a.sizes a.words.now a.fences.now a.value c.requires.0 c.requires.1
    c.flip_value.new.words c.flip_value.auto.words a.row c.requires.2 c.flip_value.ensures a.merges c.requires.3
    c.if-merges.true c.renew.new.fences c.renew.ensures

pub returns-else-merges : goal.returns-else-merges
returns-else-merges c =
    let a = c.args in
    flip_keeps a.sizes a.words.now a.fences.now a.value c.requires.0 c.requires.1
    c.flip_value.new.words c.flip_value.auto.words a.row c.requires.2 c.flip_value.ensures a.merges c.requires.3 c.if-merges.false
