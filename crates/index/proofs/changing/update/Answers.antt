-- `update`: what was decided is carried out: a refusal, nothing, or a flip of the row in its old value and one in the new.
use Rattle.index.proofs.changing.Exits.{update_kept, update_same, old_asks, second_asks, update-done}
use Rattle.index.proofs.changing.update.Goals as goal

pub flip_fenced-requires : goal.flip_fenced-requires
flip_fenced-requires c =
    let a = c.args in
    let moves = c.in-Ok-Some in
    old_asks a.words.now a.fences.now a.header a.row a.value moves.moving (rw moves.field-0-is at moves.ensures)

pub flip_fenced-requires-in-Ok-Some : goal.flip_fenced-requires-in-Ok-Some
flip_fenced-requires-in-Ok-Some c =
    let a = c.args in
    let moves = c.in-Ok-Some in
    let once = c.flip_fenced in
    second_asks a.words.now a.fences.now a.header a.row a.value moves.moving (rw moves.field-0-is at moves.ensures)
    once.new.words once.new.fences once.auto.words once.auto.fences once.ensures

pub returns-in-Err : goal.returns-in-Err
returns-in-Err c =
    let a = c.args in
    update_kept a.words.now a.fences.now a.header a.row a.value c.in-Err.refusal c.in-Err.ensures c.refuse.result c.refuse.ensures

pub returns-in-Ok-None : goal.returns-in-Ok-None
returns-in-Ok-None c =
    let a = c.args in
    update_same a.words.now a.fences.now a.header a.row a.value (rw c.in-Ok-None.field-0-is at c.in-Ok-None.ensures) c.done.result c.done.ensures

pub returns-in-Ok-Some : goal.returns-in-Ok-Some
returns-in-Ok-Some c =
    let a = c.args in
    let moves = c.in-Ok-Some in
    let once = c.flip_fenced in
    let twice = c.flip_fenced-in-Ok-Some in
    update-done a.words.now a.fences.now a.header a.row a.value moves.moving (rw moves.field-0-is at moves.ensures)
    once.new.words once.new.fences once.auto.words once.auto.fences once.ensures
    twice.new.words twice.new.fences twice.ensures c.done-in-Ok-Some.result c.done-in-Ok-Some.ensures
