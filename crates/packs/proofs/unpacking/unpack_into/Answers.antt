-- `unpack_into` meets its contract. The loop's invariant is `Unpacking`: the rows of the words read stand in the output. Assumes nothing.
use native.Mathlib.Omega.{arith}
use Rattle.packs.proofs.unpacking.Loop.{begin, part-fits, next_word, ends}
use Rattle.packs.proofs.unpacking.unpack_into.Goals as goal

pub loop-word-init : goal.loop-word-init
loop-word-init c = begin c.args.list.now c.args.out.now

pub end_of-end-requires : goal.end_of-end-requires
end_of-end-requires c = (omega arith, omega arith)

pub slice_bounds-put_word-count : goal.slice_bounds-put_word-count
slice_bounds-put_word-count c = omega (arith, c.end_of-end.ensures)

pub put_word-requires : goal.put_word-requires
put_word-requires c =
    let l = c.loop-word in
    part-fits l.invariant c.loop-word-test.true c.end_of-end.result c.end_of-end.ensures

pub loop-word-preserved : goal.loop-word-preserved
loop-word-preserved c =
    let l = c.loop-word in
    let end = c.end_of-end in
    let rows = c.put_word in
    next_word l.invariant c.loop-word-test.true end.result end.ensures rows.new.out rows.ensures

pub shape_of-out : goal.shape_of-out
shape_of-out c = c.loop-word.invariant.same

pub returns : goal.returns
returns c = ends c.loop-word.invariant (omega arith) c.requires.1
