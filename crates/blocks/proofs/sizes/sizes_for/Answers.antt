-- `sizes_for` meets its contract: M / G rounded up is at most M. Assumes nothing.
use mathlib.Core.Path.{refl}
use Rattle.blocks.proofs.sizes.sizes_for.Goals as goal

pub returns : goal.returns
returns c = rw (c.fences_for-fences.ensures, c.groups_for-value_room.ensures) refl

pub invariant_of-result : goal.invariant_of-result
invariant_of-result c =
    record {
      some_rows = c.requires.0;
      few_rows = c.requires.1;
      some_threshold = c.requires.2;
      few_threshold = c.requires.3;
      some_spacing = c.requires.4;
      few_spacing = c.requires.5;
      groups_are = c.groups_for-value_room.ensures;
      value_room_is = refl;
      update_room_is = refl;
      block_is = refl;
      fences_are = c.fences_for-fences.ensures;
    }
