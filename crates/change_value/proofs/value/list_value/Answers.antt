-- `list_value` lists the block of the value.
use mathlib.Core.Path.{◌∙◌, ap}
use lib.ListN.{length}
use Rattle.memory.proofs.Places.{length-block_at}
use Rattle.change_value.specs.Change.{whole}
use Rattle.change_value.proofs.value.list_value.Goals as goal

pub list_current-requires : goal.list_current-requires
unfolding whole
list_current-requires c =
    let a = c.args in
    let same = c.block_of.ensures in
    (ap length same ∙ length-block_at a.sizes a.words.now a.value c.requires.0, rw same c.requires.1)

pub returns : goal.returns
returns c = rw c.block_of.ensures at c.list_current.ensures
