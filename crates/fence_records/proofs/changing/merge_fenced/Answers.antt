-- `merge_fenced`: the words are merged, and the fences made anew.
use Rattle.fence_records.proofs.changing.Steps.{merge_asks, merge_done}
use Rattle.fence_records.proofs.changing.merge_fenced.Goals as goal

pub renew-requires : goal.renew-requires
renew-requires c =
    let a = c.args in
    merge_asks a.sizes a.words.now a.fences.now a.value c.requires.0 c.requires.1
    c.merge_value.new.words c.merge_value.auto.words c.merge_value.ensures

pub returns : goal.returns
returns c =
    let a = c.args in
    merge_done a.sizes a.words.now a.fences.now a.value c.requires.0 c.requires.1
    c.merge_value.new.words c.merge_value.auto.words c.merge_value.ensures c.renew.new.fences c.renew.ensures
