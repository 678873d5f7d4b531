-- `decide_update`: the entry refuses, the row is damaged or gone, it has the value already, a list is not whole, or the row is to be moved.
use mathlib.Core.Path.{sym, ◌∙◌}
use Rattle.std.proofs.lemmas.Result.{err_from_is_err_and}
use Rattle.std.proofs.Common.{eq-eqb}
use borrow.Author.Tests.{ne_eqb}
use Rattle.index.proofs.deciding.Exits.{update_stops, update_planned, update_unreadable, update_gone, update_same}
use Rattle.index.proofs.deciding.Exits.{old_asks, new_asks, old_faulty, new_faulty, update_moves}
use Rattle.index.proofs.deciding.decide_update.Goals as goal

pub read_row-found-requires : goal.read_row-found-requires
read_row-found-requires c =
    let a = c.args in
    update_planned a.words.now a.fences.now a.header a.row a.value c.in_ok-sizes.sizes c.in_ok-sizes.ensures

pub returns-in_default : goal.returns-in_default
returns-in_default c =
    let a = c.args in
    let found = c.read_row-found in
    update_unreadable a.words.now a.fences.now a.header a.row a.value c.in_ok-sizes.sizes c.in_ok-sizes.ensures found.result found.ensures c.in_default.ensures

pub returns-in_default-holder : goal.returns-in_default-holder
returns-in_default-holder c =
    let a = c.args in
    let found = c.read_row-found in
    update_gone a.words.now a.fences.now a.header a.row a.value c.in_ok-sizes.sizes c.in_ok-sizes.ensures found.result found.ensures
    (rw c.in_default-holder.is at c.in-Ok.ensures)

pub returns-then-old-value : goal.returns-then-old-value
returns-then-old-value c =
    let a = c.args in
    let found = c.read_row-found in
    update_same a.words.now a.fences.now a.header a.row a.value c.in_ok-sizes.sizes c.in_ok-sizes.ensures found.result found.ensures
    c.in-Some.old (rw c.in-Some.is at c.in-Ok.ensures) (eq-eqb c.in-Some.old a.value c.if-old-value.true)

pub decide_flip-requires : goal.decide_flip-requires
decide_flip-requires c =
    let a = c.args in
    let found = c.read_row-found in
    let asks = old_asks a.words.now a.fences.now a.header a.row a.value c.in_ok-sizes.sizes c.in_ok-sizes.ensures found.result found.ensures
    c.in-Some.old (rw c.in-Some.is at c.in-Ok.ensures) (ne_eqb c.in-Some.old a.value c.if-old-value.false) in
    (asks.1, asks.2)

pub returns-in_default-decide_flip : goal.returns-in_default-decide_flip
returns-in_default-decide_flip c =
    let a = c.args in
    let found = c.read_row-found in
    old_faulty a.words.now a.fences.now a.header a.row a.value c.in_ok-sizes.sizes c.in_ok-sizes.ensures found.result found.ensures
    c.in-Some.old (rw c.in-Some.is at c.in-Ok.ensures) (ne_eqb c.in-Some.old a.value c.if-old-value.false) c.in_default-decide_flip.ensures

pub decide_flip-requires-2 : goal.decide_flip-requires-2
decide_flip-requires-2 c =
    let a = c.args in
    let found = c.read_row-found in
    let asks = new_asks a.words.now a.fences.now a.header a.row a.value c.in_ok-sizes.sizes c.in_ok-sizes.ensures found.result found.ensures
    c.in-Some.old (rw c.in-Some.is at c.in-Ok.ensures) (ne_eqb c.in-Some.old a.value c.if-old-value.false) in
    (asks.1, asks.2)

pub returns-in_default-decide_flip-2 : goal.returns-in_default-decide_flip-2
returns-in_default-decide_flip-2 c =
    let a = c.args in
    let found = c.read_row-found in
    new_faulty a.words.now a.fences.now a.header a.row a.value c.in_ok-sizes.sizes c.in_ok-sizes.ensures found.result found.ensures
    c.in-Some.old (rw c.in-Some.is at c.in-Ok.ensures) (ne_eqb c.in-Some.old a.value c.if-old-value.false)
    c.in-Some-decide_flip.old_merges c.in-Some-decide_flip.ensures c.in_default-decide_flip-2.ensures

pub returns-in_err-sizes : goal.returns-in_err-sizes
returns-in_err-sizes c =
    let a = c.args in
    let p = err_from_is_err_and c.from_residual.result c.from_residual.ensures.1 in
    rw (p.1, p.2) (update_stops a.words.now a.fences.now a.header a.row a.value _ (sym c.in_err-sizes.was ∙ c.enter_update.ensures))

pub returns : goal.returns
returns c =
    let a = c.args in
    let found = c.read_row-found in
    update_moves a.words.now a.fences.now a.header a.row a.value c.in_ok-sizes.sizes c.in_ok-sizes.ensures found.result found.ensures
    c.in-Some.old (rw c.in-Some.is at c.in-Ok.ensures) (ne_eqb c.in-Some.old a.value c.if-old-value.false)
    c.in-Some-decide_flip.old_merges c.in-Some-decide_flip.ensures c.in-Some-decide_flip-2.new_merges c.in-Some-decide_flip-2.ensures
