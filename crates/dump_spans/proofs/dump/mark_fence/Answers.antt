-- `mark_fence` meets its contract: the groups of fence j that have a row below n are a span. Assumes nothing.
use mathlib.Core.Path.{◌∙◌, ap}
use native.Mathlib.Omega.{arith}
use lib.ListN.{length}
use Rattle.memory.proofs.Places.{length-block_at}
use Rattle.dump_spans.specs.Inner.{fence_holds, fence_marked}
use Rattle.dump_spans.proofs.dump.Visits.{few_visits, visit_group}
use Rattle.blocks.proofs.Opened.{limits_of, spacing_read}
use Rattle.dump_spans.proofs.dump.mark_fence.Goals as goal

pub overflow_cast-from : goal.overflow_cast-from
overflow_cast-from c = omega (arith, few_visits c.args.issued c.args.sizes.spacing (limits_of c.sizes.view_is c.sizes.invariant).some_spacing (omega (arith, spacing_read c.sizes.view_is)))

pub overflow_mul-from : goal.overflow_mul-from
overflow_mul-from c = rw (spacing_read c.sizes.view_is) (omega (arith, visit_group c.args.issued c.args.sizes.spacing (limits_of c.sizes.view_is c.sizes.invariant).some_spacing c.args.j c.requires.4))

pub overflow_add-from : goal.overflow_add-from
overflow_add-from c = rw (spacing_read c.sizes.view_is) (omega (arith, visit_group c.args.issued c.args.sizes.spacing (limits_of c.sizes.view_is c.sizes.invariant).some_spacing c.args.j c.requires.4))

pub mark_span-requires : goal.mark_span-requires
mark_span-requires c =
    let first_group = visit_group c.args.issued c.args.sizes.spacing (limits_of c.sizes.view_is c.sizes.invariant).some_spacing c.args.j c.requires.4 in
    let ends = rw (spacing_read c.sizes.view_is) at c.min-to.ensures in
    rw (spacing_read c.sizes.view_is) (
      ap length c.block_of.ensures ∙ length-block_at c.args.sizes c.args.words.now c.args.value c.requires.0,
      omega (arith, ends),
      omega (arith, ends),
      c.requires.3,
    )

pub returns : goal.returns
unfolding fence_holds fence_marked
returns c =
    rw (c.block_of.ensures, c.min-to.ensures, spacing_read c.sizes.view_is, c.groups_for.ensures) at c.mark_span.ensures
