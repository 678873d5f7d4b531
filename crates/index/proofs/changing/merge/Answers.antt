-- `merge`: the entry or the whole check refuses, or the value is merged.
use Rattle.index.proofs.answering.Exits.{whole_asks}
use Rattle.index.proofs.changing.Exits.{merge_stops, merge_done}
use Rattle.index.proofs.changing.merge.Goals as goal

pub merge_fenced-requires : goal.merge_fenced-requires
merge_fenced-requires c =
    let a = c.args in
    whole_asks a.words.now a.fences.now a.header a.value c.in-Ok.sizes c.in-Ok.ensures

pub returns-in-Err : goal.returns-in-Err
returns-in-Err c =
    let a = c.args in
    merge_stops a.words.now a.fences.now a.header a.value c.in-Err.refusal c.in-Err.ensures c.refuse.result c.refuse.ensures

pub returns-in-Ok : goal.returns-in-Ok
returns-in-Ok c =
    let a = c.args in
    let merged = c.merge_fenced in
    merge_done a.words.now a.fences.now a.header a.value c.in-Ok.sizes c.in-Ok.ensures
    merged.new.words merged.new.fences merged.ensures c.done.result c.done.ensures
