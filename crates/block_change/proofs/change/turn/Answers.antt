-- `turn` leaves U with the row turned over, made in an array of zeros, in U's room.
use native.Mathlib.Omega.{arith}
use Rattle.block_change.proofs.change.Turns.{turned-written}
use Rattle.block_change.proofs.change.turn.Goals as goal

pub returns : goal.returns
returns c =
    let a = c.args in
    let made = c.turned_into-count in
    let put = c.put_update in
    turned-written a.sizes a.row a.block.now c.requires.3 made.result 511 made.new.out put.new.block
    made.ensures.0 (omega arith) made.ensures.1 put.ensures
