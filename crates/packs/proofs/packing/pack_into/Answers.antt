-- `pack_into` writes the list of the rows group by group: its loop keeps `Packing`.
use mathlib.Core.Path.{refl, ◌∙◌}
use Rattle.std.proofs.Common.{arith, rules}
use Rattle.packs.proofs.packing.Loop.{starts, cut_of, part_bits, turn_fits, turns, finish_fits, finishes}
use Rattle.packs.proofs.packing.pack_into.Goals as goal

pub loop-part-init : goal.loop-part-init
loop-part-init c = record { packing = starts _ _ _ _ (cc) c.requires.0 c.new-list.ensures.begins; size = cc; same_reference = refl }

pub group_of-requires : goal.group_of-requires
group_of-requires c =
    let l = c.loop-part in
    let cut = cut_of l.invariant.size c.in-Some.ensures.steps.1 in
    (part_bits cut l.invariant.packing.bits, omega (arith, cut.long))

pub push-requires : goal.push-requires
push-requires c =
    let l = c.loop-part in
    let cut = cut_of l.invariant.size c.in-Some.ensures.steps.1 in
    (omega arith, λ p q. omega arith, turn_fits l.invariant.packing c.requires.1 c.requires.2 cut c.group_of.result c.group_of.ensures)

pub loop-part-preserved : goal.loop-part-preserved
loop-part-preserved c =
    let l = c.loop-part in
    let cut = cut_of l.invariant.size c.in-Some.ensures.steps.1 in
    record {
      packing = turns l.invariant.packing c.requires.1 c.requires.2 cut c.group_of.result c.group_of.ensures c.push.ensures.follows;
      size = cc;
      same_reference = cc;
    }

pub finish-requires : goal.finish-requires
finish-requires c =
    finish_fits c.loop-part.invariant.packing c.requires.1 c.requires.2 c.in-None.ensures.steps.1.0

pub returns : goal.returns
returns c =
    let e = c.finish.ensures in
    let end = finishes c.loop-part.invariant.packing c.requires.1 c.requires.2 c.in-None.ensures.steps.1.0 in
    (e.0 ∙ end.0, search (rules, e, end))
