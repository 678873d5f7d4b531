-- `pack_aside` makes the list in an array that has room for any list, and gives it.
use mathlib.Core.Path.{◌∙◌, ap, sym}
use native.Mathlib.Omega.{arith}
use lib.ListN.{length, drop, replicate, length-append}
use Rattle.groups.proofs.Sets.{front}
use Rattle.words.proofs.Size.{packed-length}
use Rattle.packs.proofs.packing.Exits.{in_order}
use Rattle.packs.proofs.packing.pack_aside.Goals as goal

pub pack_into-length-requires : goal.pack_into-length-requires
pack_into-length-requires c =
    (c.requires.0, c.requires.1, omega (arith, packed-length c.args.rows.now, c.requires.1))

pub slice_bounds-list-end : goal.slice_bounds-list-end
slice_bounds-list-end c =
    let p = c.pack_into-length in
    omega (arith, p.ensures.0, simp length-append at (ap length p.ensures.1))

pub slice_bounds-give_list-end : goal.slice_bounds-give_list-end
slice_bounds-give_list-end c =
    let p = c.pack_into-length in
    let made = front p.new.out _ (drop p.result (replicate 4096 0)) p.result p.ensures.0 p.ensures.1 in
    c.pack_into-length.ensures.0 ∙ sym (ap length made)

pub returns : goal.returns
returns c =
    let p = c.pack_into-length in
    let made = front p.new.out _ (drop p.result (replicate 4096 0)) p.result p.ensures.0 p.ensures.1 in
    rw (in_order c.args.rows.now c.args.out.now c.requires.0 c.requires.1)
    (rw made at c.give_list.ensures)
