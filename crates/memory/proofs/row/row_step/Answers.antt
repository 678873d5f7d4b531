-- `row_step` meets its contract: a broken read damages the row, and the row's bit of the group that is read makes a holder or none. Assumes nothing.
use Rattle.std.specs.Prelude.{Option}
use mathlib.Core.Path.{◌≡◌, refl, sym, ap, ◌∙◌}
use mathlib.Core.List.{List}
use Prim.Native.Nat.{ℕ, ◌-◌, ◌/◌, ◌%◌, ◌≤◌}
use native.Mathlib.Omega.{arith}
use Rattle.blocks.specs.Inner.{Limits}
use Rattle.blocks.specs.declared.sizes.Sizes.{Sizes}
use Rattle.block_read.specs.Read.{read_group}
use Rattle.block_read.specs.declared.fence.Fence.{Fence}
use Rattle.block_read.specs.declared.read.Reading.{Reading}
use Rattle.block_read.proofs.Readings.{read_as, group_says}
use Rattle.memory.proofs.Places.{length-block_at}
use Rattle.memory.proofs.RowLaws.{step_clear, step_set}
use Rattle.blocks.proofs.Opened.{limits_of}
use Rattle.memory.proofs.row.row_step.Goals as goal

-- what is read in the slice of a block is read in the block
in_block : (sizes : Sizes) (fence : Fence) (group : ℕ) {slice block : List ℕ} {reading : Option Reading}
    → reading ≡ read_group sizes fence group slice → slice ≡ block → reading ≡ read_group sizes fence group block
in_block sizes fence group read same = read ∙ ap (read_group sizes fence group) same

few_opened : (sizes : Sizes) → Limits sizes → (fence : Fence) (group : ℕ) (block : List ℕ) (rows opened : ℕ)
    → read_group sizes fence group block ≡ read_as rows opened → opened ≤ 767
few_opened sizes limits fence group block rows opened found =
    omega (arith, (group_says sizes block fence group rows opened found).few, limits.few_spacing, limits.few_threshold)

pub read_group-requires : goal.read_group-requires
read_group-requires c =
    (rw c.block_of-block.ensures (length-block_at c.args.sizes c.args.words.now c.args.value c.requires.0))

pub returns-in_default : goal.returns-in_default
returns-in_default c =
    let read = in_block c.args.sizes c.args.fence (c.args.row / 31) c.read_group.ensures c.block_of-block.ensures in
    rw (← read, c.in_default.is) refl

pub overflow_add-opened : goal.overflow_add-opened
overflow_add-opened c =
    let read = in_block c.args.sizes c.args.fence (c.args.row / 31) c.read_group.ensures c.block_of-block.ensures in
    omega (arith, few_opened c.args.sizes (limits_of c.sizes.view_is c.sizes.invariant) c.args.fence (c.args.row / 31) _ _ _ (sym read ∙ c.in-Some.is))

pub returns-then-under-eq0 : goal.returns-then-under-eq0
returns-then-under-eq0 c =
    let read = in_block c.args.sizes c.args.fence (c.args.row / 31) c.read_group.ensures c.block_of-block.ensures in
    let a = c.args in
    let bit = sym (c.under.ensures (30 - a.row % 31) c.requires.1) ∙ c.if-under-eq0.true in
    rw (← read, c.in-Some.is) (sym (step_clear a.row a.value a.before _ _ bit))

pub returns : goal.returns
returns c =
    let read = in_block c.args.sizes c.args.fence (c.args.row / 31) c.read_group.ensures c.block_of-block.ensures in
    let a = c.args in
    let bit = c.under.ensures (30 - a.row % 31) c.requires.1 in
    rw (← read, c.in-Some.is)
    (sym (step_set a.row a.value a.before _ _ (λ none. c.if-under-eq0.false (bit ∙ none))))
