-- `query`: the entry or the whole check refuses, or the value's list is given.
use mathlib.Core.Path.{sym, ◌∙◌}
use Rattle.std.proofs.lemmas.Result.{err_from_is_err_and}
use Rattle.index.proofs.answering.Exits.{query_stops, query_asks, query_listed}
use Rattle.index.proofs.answering.query.Goals as goal

pub list_value-requires : goal.list_value-requires
list_value-requires c =
    let a = c.args in
    let asks = query_asks a.words.now a.fences.now a.header a.value a.out.now c.in_ok-sizes.sizes c.in_ok-sizes.ensures in
    (asks.1, asks.2)

pub returns-in_err-sizes : goal.returns-in_err-sizes
returns-in_err-sizes c =
    let a = c.args in
    let p = err_from_is_err_and c.from_residual.result c.from_residual.ensures.1 in
    rw (p.1, p.2) (query_stops a.words.now a.fences.now a.header a.value a.out.now _ (sym c.in_err-sizes.was ∙ c.enter_whole.ensures))

pub returns : goal.returns
returns c =
    let a = c.args in
    query_listed a.words.now a.fences.now a.header a.value a.out.now c.in_ok-sizes.sizes c.in_ok-sizes.ensures
    c.list_value.result c.list_value.new.out c.list_value.ensures
