-- `find_fence` meets its contract: the search goes on from the fence before. Assumes nothing.
use mathlib.Core.Path.{ap, ◌∙◌}
use mathlib.Core.List.{List}
use Prim.Native.Nat.{ℕ, ◌*◌}
use native.Mathlib.Omega.{arith}
use Rattle.blocks.specs.Block.{value_list}
use Rattle.blocks.proofs.SizeLaws.{few-groups, few_fences, fence_group}
use Rattle.block_read.specs.Fences.{locate_from}
use Rattle.block_read.specs.declared.fence.Fence.{Fence}
use Rattle.block_read.proofs.FenceLaws.{Stands, stands_place}
use Rattle.memory.specs.Memory.{block_at, list_at}
use Rattle.memory.proofs.FenceRecords.{before_stands, before_finds}
use Rattle.memory.proofs.Places.{length-block_at}
use Rattle.blocks.proofs.Opened.{limits_of, spacing_read}
use Rattle.memory.proofs.fence.find_fence.Goals as goal

pub overflow_cast-group : goal.overflow_cast-group
overflow_cast-group c =
    omega (arith, few_fences c.args.sizes (limits_of c.sizes.view_is c.sizes.invariant), few-groups c.args.sizes (limits_of c.sizes.view_is c.sizes.invariant), c.requires.2)

pub overflow_mul-group : goal.overflow_mul-group
overflow_mul-group c =
    rw (spacing_read c.sizes.view_is) (omega (arith, fence_group c.args.sizes (limits_of c.sizes.view_is c.sizes.invariant) c.args.j c.requires.2, few-groups c.args.sizes (limits_of c.sizes.view_is c.sizes.invariant)))

pub next_fence-requires : goal.next_fence-requires
next_fence-requires c =
    let list : List ℕ = list_at c.args.sizes c.args.words.now c.args.value in
    let stands : Stands list (c.args.j * c.args.sizes.spacing) c.args.before = rw c.requires.3 (before_stands c.args.sizes list c.args.j) in
    let a = c.args in
    let is = c.block_of.ensures in
    rw (spacing_read c.sizes.view_is) (
      rw is (length-block_at a.sizes a.words.now a.value c.requires.0),
      rw is c.requires.1,
      rw is (stands_place a.sizes (block_at a.sizes a.words.now a.value) _ a.before stands),
      stands.early,
      omega (arith, fence_group a.sizes (limits_of c.sizes.view_is c.sizes.invariant) a.j c.requires.2, few-groups a.sizes (limits_of c.sizes.view_is c.sizes.invariant)),
    )

pub returns : goal.returns
returns c =
    let list : List ℕ = list_at c.args.sizes c.args.words.now c.args.value in
    let a = c.args in
    let group = a.j * a.sizes.spacing in
    let here = ap (λ (block : List ℕ). locate_from (value_list a.sizes block) a.before group) c.block_of.ensures in
    let before = ap (λ (fence : Fence). locate_from list fence group) c.requires.3 in
    (rw (spacing_read c.sizes.view_is) at c.next_fence.ensures) ∙ here ∙ before ∙ before_finds a.sizes list a.j
