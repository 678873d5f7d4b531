-- `enter_index` meets its contract: each exit is that of the first check that applies, for the sizes that are worked out behind the first. Assumes nothing.
use native.Mathlib.Omega.{arith}
use Rattle.blocks.proofs.SizeLaws.{blocks_bound, fences_bound}
use Rattle.blocks.proofs.Opened.{limits_of, block_read, fences_read}
use Rattle.memory.proofs.Headers.{within}
use Rattle.memory.proofs.entry.Exits.{failed, held, outside, few_words, few_fences, enters}
use Rattle.memory.proofs.entry.enter_index.Goals as goal

pub returns-then-not-header_holds : goal.returns-then-not-header_holds
returns-then-not-header_holds c =
    let args = c.args in
    outside args.words args.fences args.header (failed c.header_holds.ensures c.if-not-header_holds.true)

pub sizes_for-sizes-requires : goal.sizes_for-sizes-requires
sizes_for-sizes-requires c =
    let numbers = within c.args.header (held c.header_holds.ensures c.if-not-header_holds.false) in
    (numbers.some_rows, numbers.few_rows, numbers.some_threshold, numbers.few_threshold, numbers.some_spacing, numbers.few_spacing)

pub overflow_mul-values : goal.overflow_mul-values
overflow_mul-values c =
    let numbers = within c.args.header (held c.header_holds.ensures c.if-not-header_holds.false) in
    let sizes = c.sizes_for-sizes in
    let limits = limits_of c.sizes.view_is c.sizes.invariant in
    rw (block_read c.sizes.view_is, limits.block_is) (omega (arith, blocks_bound sizes.result limits _ numbers.few_values))

pub returns-then-words-values : goal.returns-then-words-values
returns-then-words-values c =
    let holds = held c.header_holds.ensures c.if-not-header_holds.false in
    let args = c.args in
    let sizes = c.sizes_for-sizes in
    few_words args.words args.fences args.header holds sizes.result sizes.ensures (rw (block_read c.sizes.view_is) at c.if-words-values.true)

pub overflow_mul-values-2 : goal.overflow_mul-values-2
overflow_mul-values-2 c =
    let numbers = within c.args.header (held c.header_holds.ensures c.if-not-header_holds.false) in
    let sizes = c.sizes_for-sizes in
    let limits = limits_of c.sizes.view_is c.sizes.invariant in
    rw (fences_read c.sizes.view_is, limits.fences_are) (omega (arith, fences_bound sizes.result limits _ numbers.few_values))

pub returns-then-fences-values : goal.returns-then-fences-values
returns-then-fences-values c =
    let holds = held c.header_holds.ensures c.if-not-header_holds.false in
    let args = c.args in
    let sizes = c.sizes_for-sizes in
    few_fences args.words args.fences args.header holds sizes.result sizes.ensures (rw (block_read c.sizes.view_is) at c.if-words-values.false) (rw (fences_read c.sizes.view_is) at c.if-fences-values.true)

pub returns : goal.returns
returns c =
    let holds = held c.header_holds.ensures c.if-not-header_holds.false in
    let args = c.args in
    let sizes = c.sizes_for-sizes in
    enters args.words args.fences args.header holds sizes.result sizes.ensures (rw (block_read c.sizes.view_is) at c.if-words-values.false) (rw (fences_read c.sizes.view_is) at c.if-fences-values.false)
