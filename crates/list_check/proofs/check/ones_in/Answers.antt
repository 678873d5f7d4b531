-- `ones_in` meets its contract, an arm at a time by what the word is read as. Assumes nothing.
use Rattle.std.proofs.Common.{◌≤◌, arith}
use Rattle.words.proofs.word.Reading.{told_fill, told_literal}
use Rattle.list_check.proofs.check.Counting.{literal_ones, fill_ones, fill_fits}
use Rattle.list_check.proofs.check.ones_in.Goals as goal

high : (c : goal.After-fill_bit) → 0x80000000 ≤ c.args.word
high c = told_fill c.args.word c.is_fill.ensures c.if-is_fill.true

pub overflow_mul-result-then-is_fill : goal.overflow_mul-result-then-is_fill
overflow_mul-result-then-is_fill c =
    let count = c.fill_count in
    let bit = c.fill_bit in
    omega (arith, fill_fits c.args.word bit.result count.result (high c) bit.ensures count.ensures c.requires)

pub returns-then-is_fill : goal.returns-then-is_fill
returns-then-is_fill c =
    let count = c.fill_count in
    let bit = c.fill_bit in
    fill_ones c.args.word bit.result count.result (high c) bit.ensures count.ensures

pub returns : goal.returns
returns c =
    let word = c.args.word in
    literal_ones word (told_literal word c.is_fill.ensures c.if-is_fill.false)
