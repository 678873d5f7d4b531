-- `decide_insert`: the entry refuses, row n is not free, a list of the value is not whole, or row n is to be flipped.
use mathlib.Core.Path.{sym, ◌∙◌}
use Rattle.std.proofs.lemmas.Result.{err_from_is_err_and}
use Rattle.index.proofs.deciding.Exits.{insert_stops, insert_planned, insert_damaged, insert_taken, insert_asks, insert_faulty, insert_flips}
use Rattle.index.proofs.deciding.decide_insert.Goals as goal

pub read_row-found-requires : goal.read_row-found-requires
read_row-found-requires c =
    let a = c.args in
    insert_planned a.words.now a.fences.now a.header a.value c.in_ok-sizes.sizes c.in_ok-sizes.ensures

pub returns-in_default : goal.returns-in_default
returns-in_default c =
    let a = c.args in
    let found = c.read_row-found in
    insert_damaged a.words.now a.fences.now a.header a.value c.in_ok-sizes.sizes c.in_ok-sizes.ensures found.result found.ensures c.in_default.ensures

pub returns-in_default-holder : goal.returns-in_default-holder
returns-in_default-holder c =
    let a = c.args in
    let found = c.read_row-found in
    insert_taken a.words.now a.fences.now a.header a.value c.in_ok-sizes.sizes c.in_ok-sizes.ensures found.result found.ensures
    _ (rw c.in_default-holder.is at c.in-Ok.ensures)

pub decide_flip-requires : goal.decide_flip-requires
decide_flip-requires c =
    let a = c.args in
    let found = c.read_row-found in
    let asks = insert_asks a.words.now a.fences.now a.header a.value c.in_ok-sizes.sizes c.in_ok-sizes.ensures found.result found.ensures (rw c.in-None.is at c.in-Ok.ensures) in
    (asks.1, asks.2)

pub returns-in_default-decide_flip : goal.returns-in_default-decide_flip
returns-in_default-decide_flip c =
    let a = c.args in
    let found = c.read_row-found in
    insert_faulty a.words.now a.fences.now a.header a.value c.in_ok-sizes.sizes c.in_ok-sizes.ensures found.result found.ensures (rw c.in-None.is at c.in-Ok.ensures)
    c.in_default-decide_flip.ensures

pub returns-in_err-sizes : goal.returns-in_err-sizes
returns-in_err-sizes c =
    let a = c.args in
    let p = err_from_is_err_and c.from_residual.result c.from_residual.ensures.1 in
    rw (p.1, p.2) (insert_stops a.words.now a.fences.now a.header a.value _ (sym c.in_err-sizes.was ∙ c.enter_insert.ensures))

pub returns : goal.returns
returns c =
    let a = c.args in
    let found = c.read_row-found in
    insert_flips a.words.now a.fences.now a.header a.value c.in_ok-sizes.sizes c.in_ok-sizes.ensures found.result found.ensures (rw c.in-None.is at c.in-Ok.ensures)
    c.in-Some.merges c.in-Some.ensures
