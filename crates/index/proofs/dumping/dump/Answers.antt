-- `dump`: the entry refuses, or the rows are marked and given.
use mathlib.Core.Path.{sym, ◌∙◌}
use Rattle.std.proofs.lemmas.Result.{err_from_is_err_and}
use Rattle.index.proofs.dumping.Exits.{dump_stops, dump_planned}
use Rattle.index.proofs.dumping.dump.Goals as goal

pub dump_rows-requires : goal.dump_rows-requires
dump_rows-requires c =
    let a = c.args in
    dump_planned a.words.now a.fences.now a.header a.out.now c.in_ok-sizes.sizes c.in_ok-sizes.ensures

pub returns-in_err-sizes : goal.returns-in_err-sizes
returns-in_err-sizes c =
    let a = c.args in
    let p = err_from_is_err_and c.from_residual.result c.from_residual.ensures.1 in
    rw (p.1, p.2) (dump_stops a.words.now a.fences.now a.header a.out.now _ (sym c.in_err-sizes.was ∙ c.enter_index.ensures))
