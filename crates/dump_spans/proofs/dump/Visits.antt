-- The fences that serve a row below n: there are few, and the first group of each has such a row. Assumes nothing.
use Prim.Native.Nat.{ℕ, ◌*◌, ◌<◌, ◌≤◌}
use native.Mathlib.Nat.{div-le_of_le-mul}
use native.Mathlib.Omega.{arith}
use Rattle.groups.specs.Rows.{row_limit, groups_for}
use Rattle.blocks.proofs.SizeLaws.{rounded_group}
use Rattle.blocks.specs.Sizes.{fences_for}

module _ (issued spacing : ℕ) (some : 1 ≤ spacing) where
  pub few_visits : issued ≤ row_limit → fences_for (groups_for issued) spacing ≤ 4096
  unfolding fences_for
  few_visits few = div-le_of_le-mul spacing (omega arith)

  pub visit_group : (j : ℕ) → j < fences_for (groups_for issued) spacing → j * spacing < groups_for issued
  unfolding fences_for
  visit_group j h = rounded_group (groups_for issued) spacing some j h
