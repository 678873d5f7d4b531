-- `decide_flip` decides by the block of the value.
use mathlib.Core.Path.{◌∙◌, ap}
use lib.ListN.{length}
use Rattle.memory.proofs.Places.{length-block_at}
use Rattle.change_value.proofs.value.decide_flip.Goals as goal

pub flip_for-requires : goal.flip_for-requires
flip_for-requires c =
    let a = c.args in
    (ap length c.block_of.ensures ∙ length-block_at a.sizes a.words.now a.value c.requires.0, c.requires.1)

pub returns : goal.returns
returns c = rw c.block_of.ensures at c.flip_for.ensures
