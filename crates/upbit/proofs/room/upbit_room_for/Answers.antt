-- `upbit_room_for` meets its contract: the sizes are worked out for numbers that are within their limits. Assumes nothing.
use native.Mathlib.Omega.{arith}
use Rattle.blocks.proofs.Opened.{limits_of, block_read, fences_read, fences_counted}
use Rattle.blocks.proofs.SizeLaws.{blocks_bound, fences_bound}
use Rattle.upbit.proofs.room.Exits.{outside, numbers, inside}
use Rattle.upbit.proofs.room.upbit_room_for.Goals as goal

pub returns-then-not-limits_hold : goal.returns-then-not-limits_hold
returns-then-not-limits_hold c =
    let args = c.args in
    outside args.rows args.values args.threshold args.spacing c.limits_hold.ensures c.from.ensures c.if-not-limits_hold.true

pub sizes_for-sizes-requires : goal.sizes_for-sizes-requires
sizes_for-sizes-requires c =
    let within = numbers c.args.rows c.args.values c.args.threshold c.args.spacing c.limits_hold.ensures c.if-not-limits_hold.false in
    (within.some_rows, within.few_rows, within.some_threshold, within.few_threshold, within.some_spacing, within.few_spacing)

pub overflow_mul-result : goal.overflow_mul-result
overflow_mul-result c =
    let within = numbers c.args.rows c.args.values c.args.threshold c.args.spacing c.limits_hold.ensures c.if-not-limits_hold.false in
    let sizes = c.sizes_for-sizes in
    let limits = limits_of c.sizes.view_is c.sizes.invariant in
    rw (block_read c.sizes.view_is, limits.block_is) (omega (arith, blocks_bound sizes.result limits _ within.few_values))

pub overflow_mul-result-2 : goal.overflow_mul-result-2
overflow_mul-result-2 c =
    let within = numbers c.args.rows c.args.values c.args.threshold c.args.spacing c.limits_hold.ensures c.if-not-limits_hold.false in
    let sizes = c.sizes_for-sizes in
    let limits = limits_of c.sizes.view_is c.sizes.invariant in
    rw (fences_counted c.sizes.view_is c.sizes.invariant) (omega (arith, fences_bound sizes.result limits _ within.few_values))

pub returns : goal.returns
returns c =
    let a = c.args in
    rw (block_read c.sizes.view_is, fences_read c.sizes.view_is)
    (inside a.rows a.values a.threshold a.spacing c.limits_hold.ensures c.if-not-limits_hold.false c.sizes_for-sizes.ensures)
