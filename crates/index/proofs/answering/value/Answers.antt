-- `value`: the entry refuses, or the row is read in all values.
use Rattle.index.proofs.answering.Exits.{value_enters, value_found, value_stops}
use Rattle.index.proofs.answering.value.Goals as goal

pub read_row-found-requires : goal.read_row-found-requires
read_row-found-requires c =
    let a = c.args in
    value_enters a.words.now a.fences.now a.header a.row c.in-Ok.sizes c.in-Ok.ensures

pub returns-in-Err : goal.returns-in-Err
returns-in-Err c =
    let a = c.args in
    value_stops a.words.now a.fences.now a.header a.row c.in-Err.refusal c.in-Err.ensures c.refused.result c.refused.ensures

pub returns-in-Ok : goal.returns-in-Ok
returns-in-Ok c =
    let a = c.args in
    value_found a.words.now a.fences.now a.header a.row c.in-Ok.sizes c.in-Ok.ensures
    c.read_row-found.result c.read_row-found.ensures c.value_of.result c.value_of.ensures
