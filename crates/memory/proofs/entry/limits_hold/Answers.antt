-- `limits_hold` meets its contract: each exit is a test, after those that held. Assumes nothing.
use mathlib.Core.Path.{refl}
use Rattle.memory.specs.Memory.{limits}
use Rattle.memory.proofs.entry.Exits.{failed, held}
use Rattle.memory.proofs.entry.limits_hold.Goals as goal

pub returns-then-not-is_between : goal.returns-then-not-is_between
unfolding limits
returns-then-not-is_between c = rw (failed c.is_between.ensures c.if-not-is_between.true) refl

pub returns-then-not-is_between-2 : goal.returns-then-not-is_between-2
unfolding limits
returns-then-not-is_between-2 c =
    let rows = held c.is_between.ensures c.if-not-is_between.false in
    rw (rows, failed c.is_between-2.ensures c.if-not-is_between-2.true) refl

pub returns-then-not-is_between-3 : goal.returns-then-not-is_between-3
unfolding limits
returns-then-not-is_between-3 c =
    let rows = held c.is_between.ensures c.if-not-is_between.false in
    let values = held c.is_between-2.ensures c.if-not-is_between-2.false in
    rw (rows, values, failed c.is_between-3.ensures c.if-not-is_between-3.true) refl

pub returns : goal.returns
unfolding limits
returns c =
    let rows = held c.is_between.ensures c.if-not-is_between.false in
    let values = held c.is_between-2.ensures c.if-not-is_between-2.false in
    let threshold = held c.is_between-3.ensures c.if-not-is_between-3.false in
    rw (rows, values, threshold) c.is_between-4.ensures
