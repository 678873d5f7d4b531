-- `decide_delete`: the entry refuses, the row is damaged or gone, a list of its value is not whole, or the row is to be flipped.
use mathlib.Core.Path.{sym, ◌∙◌}
use Rattle.std.proofs.lemmas.Result.{err_from_is_err_and}
use Rattle.index.proofs.deciding.Exits.{delete_stops, delete_planned, delete_unreadable, delete_gone, delete_asks, delete_faulty, delete_flips}
use Rattle.index.proofs.deciding.decide_delete.Goals as goal

pub read_row-found-requires : goal.read_row-found-requires
read_row-found-requires c =
    let a = c.args in
    delete_planned a.words.now a.fences.now a.header a.row c.in_ok-sizes.sizes c.in_ok-sizes.ensures

pub returns-in_default : goal.returns-in_default
returns-in_default c =
    let a = c.args in
    let found = c.read_row-found in
    delete_unreadable a.words.now a.fences.now a.header a.row c.in_ok-sizes.sizes c.in_ok-sizes.ensures found.result found.ensures c.in_default.ensures

pub returns-in_default-holder : goal.returns-in_default-holder
returns-in_default-holder c =
    let a = c.args in
    let found = c.read_row-found in
    delete_gone a.words.now a.fences.now a.header a.row c.in_ok-sizes.sizes c.in_ok-sizes.ensures found.result found.ensures
    (rw c.in_default-holder.is at c.in-Ok.ensures)

pub decide_flip-requires : goal.decide_flip-requires
decide_flip-requires c =
    let a = c.args in
    let found = c.read_row-found in
    let asks = delete_asks a.words.now a.fences.now a.header a.row c.in_ok-sizes.sizes c.in_ok-sizes.ensures found.result found.ensures
    c.in-Some.value (rw c.in-Some.is at c.in-Ok.ensures) in
    (asks.1, asks.2)

pub returns-in_default-decide_flip : goal.returns-in_default-decide_flip
returns-in_default-decide_flip c =
    let a = c.args in
    let found = c.read_row-found in
    delete_faulty a.words.now a.fences.now a.header a.row c.in_ok-sizes.sizes c.in_ok-sizes.ensures found.result found.ensures
    c.in-Some.value (rw c.in-Some.is at c.in-Ok.ensures) c.in_default-decide_flip.ensures

pub returns-in_err-sizes : goal.returns-in_err-sizes
returns-in_err-sizes c =
    let a = c.args in
    let p = err_from_is_err_and c.from_residual.result c.from_residual.ensures.1 in
    rw (p.1, p.2) (delete_stops a.words.now a.fences.now a.header a.row _ (sym c.in_err-sizes.was ∙ c.enter_row.ensures))

pub returns : goal.returns
returns c =
    let a = c.args in
    let found = c.read_row-found in
    delete_flips a.words.now a.fences.now a.header a.row c.in_ok-sizes.sizes c.in_ok-sizes.ensures found.result found.ensures
    c.in-Some.value (rw c.in-Some.is at c.in-Ok.ensures) c.in-Some-decide_flip.merges c.in-Some-decide_flip.ensures
