-- A header that is within its limits: its numbers, and the sizes of its blocks. Assumes nothing.
use mathlib.Core.Path.{◌≡◌, refl}
use mathlib.Core.Bool.{true, and-eq-true_iff}
use Prim.Native.Nat.{ℕ, ◌≤◌}
use lib.Dec.{leb}
use borrow.Author.Tests.{leb-true}
use Rattle.groups.specs.Rows.{row_limit}
use Rattle.blocks.specs.Inner.{Limits}
use Rattle.memory.specs.Memory.{between, limits, within_limits, sizes_of}
use Rattle.memory.specs.declared.header.Header.{Header}

-- the numbers of a header that is within its limits
pub record Within (header : Header) : Type 0 where
  pub some_rows : 1 ≤ header.rows
  pub few_rows : header.rows ≤ row_limit
  pub some_values : 1 ≤ header.values
  pub few_values : header.values ≤ 64
  pub some_threshold : 1 ≤ header.threshold
  pub few_threshold : header.threshold ≤ 255
  pub some_spacing : 1 ≤ header.spacing
  pub few_spacing : header.spacing ≤ 256
  pub few_issued : header.issued ≤ header.rows

between_parts : (low high number : ℕ) → between low high number ≡ true → (low ≤ number) × (number ≤ high)
between_parts low high number e =
    let both = (and-eq-true_iff (leb low number) (leb number high)).0 e in
    (leb-true low number both.0, leb-true number high both.1)

module _ (header : Header) where
  pub within : within_limits header ≡ true → Within header
  unfolding within_limits limits
  within e =
      let all = (and-eq-true_iff _ (leb header.issued header.rows)).0 e in
      let three = (and-eq-true_iff _ (between 1 256 header.spacing)).0 all.0 in
      let two = (and-eq-true_iff _ (between 1 255 header.threshold)).0 three.0 in
      let one = (and-eq-true_iff (between 1 row_limit header.rows) (between 1 64 header.values)).0 two.0 in
      let rows = between_parts 1 row_limit header.rows one.0 in
      let values = between_parts 1 64 header.values one.1 in
      let threshold = between_parts 1 255 header.threshold two.1 in
      let spacing = between_parts 1 256 header.spacing three.1 in
      record {
        some_rows = rows.0;
        few_rows = rows.1;
        some_values = values.0;
        few_values = values.1;
        some_threshold = threshold.0;
        few_threshold = threshold.1;
        some_spacing = spacing.0;
        few_spacing = spacing.1;
        few_issued = leb-true header.issued header.rows all.1;
      }

  pub within_limits_lem : Within header → Limits (sizes_of header)
  within_limits_lem w =
      record {
        some_rows = w.some_rows;
        few_rows = w.few_rows;
        some_threshold = w.some_threshold;
        few_threshold = w.few_threshold;
        some_spacing = w.some_spacing;
        few_spacing = w.few_spacing;
        groups_are = refl;
        value_room_is = refl;
        update_room_is = refl;
        block_is = refl;
        fences_are = refl;
      }
