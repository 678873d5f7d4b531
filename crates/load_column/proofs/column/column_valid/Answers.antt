-- `column_valid` meets its contract: the column is valid where the largest byte so far and the bytes to come are. Assumes nothing.
use Rattle.std.proofs.Common.{◌≡◌, max, sym, ◌∙◌, arith, rules}
use Rattle.load_column.proofs.column.Bytes.{none_seen, one_seen, all_seen}
use Rattle.load_column.proofs.column.column_valid.Goals as goal

pub loop-byte-init : goal.loop-byte-init
loop-byte-init c = none_seen c.args.values c.args.column.now

pub loop-byte-preserved : goal.loop-byte-preserved
loop-byte-preserved c =
    let loop = c.loop-byte in
    let next = c.following.result in
    let larger : c.max-largest.result ≡ max loop.largest next = search rules in
    let seen = one_seen c.args.values c.args.column.now loop.largest loop.byte-index next (omega arith) (c.following.ensures c.args.values) in
    rw larger (loop.invariant ∙ seen)

pub returns : goal.returns
returns c =
    let loop = c.loop-byte in
    c.at_most.ensures ∙ sym (loop.invariant ∙ all_seen c.args.values c.args.column.now loop.largest loop.byte-index (omega arith))
