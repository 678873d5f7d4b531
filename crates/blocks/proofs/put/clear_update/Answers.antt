-- `clear_update` puts a room whose one word is the fill of all groups with 0: the all-zero list.
use mathlib.Core.Path.{refl, ◌∙◌}
use native.Mathlib.Omega.{arith}
use Rattle.blocks.proofs.Opened.{limits_of, groups_read}
use Rattle.blocks.proofs.put.Stores.{cleared}
use Rattle.blocks.proofs.put.clear_update.Goals as goal

pub returns : goal.returns
returns c =
    let a = c.args in
    let word = c.fill_word in
    let put = c.put_update in
    cleared a.sizes (limits_of c.sizes.view_is c.sizes.invariant) a.block.now word.result 511 put.new.block (word.ensures ∙ rw (groups_read c.sizes.view_is) refl) (omega arith) put.ensures
