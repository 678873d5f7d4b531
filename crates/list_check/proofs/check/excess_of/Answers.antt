-- `excess_of` meets its contract, by what its tests pick. Assumes nothing.
use Rattle.std.proofs.Common.{Bool, cond, ap, ◌∙◌, arith}
use Rattle.list_check.proofs.check.Excess.{picked}
use Rattle.list_check.proofs.check.excess_of.Goals as goal

pub returns : goal.returns
returns c =
    let counted = c.wrapping_sub_u32-counted in
    let fill = c.pick-fill in
    let excess = c.pick-excess in
    let full = c.pick in
    picked c.args.before c.args.word counted.result fill.result excess.result full.result c.pick-2.result (omega arith) (omega arith) (omega arith)
    (counted.ensures.value ∙ c.fill_count.ensures) fill.ensures
    (excess.ensures ∙ ap (λ (t : Bool). cond t fill.result 0) c.is_fill.ensures) full.ensures c.pick-2.ensures
