-- `insert`: what was decided is carried out: a refusal, or a flip of row n.
use Rattle.index.proofs.changing.Exits.{insert_kept, spare_row, insert_asks, insert_done}
use Rattle.index.proofs.changing.insert.Goals as goal

pub flip_fenced-requires : goal.flip_fenced-requires
flip_fenced-requires c =
    let a = c.args in
    let flips = c.in-Ok in
    insert_asks a.words.now a.fences.now a.header a.value flips.flip flips.ensures

pub grow-requires : goal.grow-requires
grow-requires c =
    let a = c.args in
    let flips = c.in-Ok in
    spare_row a.words.now a.fences.now a.header a.value flips.flip flips.ensures

pub returns-in-Err : goal.returns-in-Err
returns-in-Err c =
    let a = c.args in
    insert_kept a.words.now a.fences.now a.header a.value c.in-Err.refusal c.in-Err.ensures c.refuse.result c.refuse.ensures

pub returns-in-Ok : goal.returns-in-Ok
returns-in-Ok c =
    let a = c.args in
    let flips = c.in-Ok in
    let flipped = c.flip_fenced in
    insert_done a.words.now a.fences.now a.header a.value flips.flip flips.ensures
    flipped.new.words flipped.new.fences flipped.ensures c.grow.result c.grow.ensures
