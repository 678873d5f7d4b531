-- `delete`: what was decided is carried out: a refusal, or a flip of the row in its value.
use Rattle.index.proofs.changing.Exits.{delete_kept, delete_asks, delete_done}
use Rattle.index.proofs.changing.delete.Goals as goal

pub flip_fenced-requires : goal.flip_fenced-requires
flip_fenced-requires c =
    let a = c.args in
    let flips = c.in-Ok in
    delete_asks a.words.now a.fences.now a.header a.row flips.flip flips.ensures

pub returns-in-Err : goal.returns-in-Err
returns-in-Err c =
    let a = c.args in
    delete_kept a.words.now a.fences.now a.header a.row c.in-Err.refusal c.in-Err.ensures c.refuse.result c.refuse.ensures

pub returns-in-Ok : goal.returns-in-Ok
returns-in-Ok c =
    let a = c.args in
    let flips = c.in-Ok in
    let flipped = c.flip_fenced in
    delete_done a.words.now a.fences.now a.header a.row flips.flip flips.ensures
    flipped.new.words flipped.new.fences flipped.ensures c.done.result c.done.ensures
