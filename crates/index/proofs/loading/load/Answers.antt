-- `load`: the entry refuses, or the blocks and fences of all values are written.
use Rattle.index.proofs.loading.Exits.{load_stops, length-fits, load_asks, load_done}
use Rattle.index.proofs.loading.load.Goals as goal

pub header_for-header-requires : goal.header_for-header-requires
header_for-header-requires c =
    let a = c.args in
    length-fits a.words.now a.fences.now a.column.now a.rows a.values a.threshold a.spacing c.in-Ok.sizes c.in-Ok.ensures

pub load_values-requires : goal.load_values-requires
load_values-requires c =
    let a = c.args in
    let made = c.header_for-header in
    load_asks a.words.now a.fences.now a.column.now a.rows a.values a.threshold a.spacing c.in-Ok.sizes c.in-Ok.ensures
    made.result made.ensures

pub returns-in-Err : goal.returns-in-Err
returns-in-Err c =
    let a = c.args in
    load_stops a.words.now a.fences.now a.column.now a.rows a.values a.threshold a.spacing c.in-Err.refusal c.in-Err.ensures
    c.no_header.result c.no_header.ensures c.refuse.result c.refuse.ensures

pub returns-in-Ok : goal.returns-in-Ok
returns-in-Ok c =
    let a = c.args in
    let made = c.header_for-header in
    let loaded = c.load_values in
    load_done a.words.now a.fences.now a.column.now a.rows a.values a.threshold a.spacing c.in-Ok.sizes c.in-Ok.ensures
    made.result made.ensures loaded.new.words loaded.new.fences loaded.ensures c.done.result c.done.ensures
