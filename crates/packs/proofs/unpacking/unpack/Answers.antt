-- `unpack` meets its contract, an exit at a time. Assumes nothing.
use mathlib.Core.Path.{◌∙◌, sym}
use lib.Seq.{length-take-le}
use Rattle.packs.proofs.unpacking.Exits.{full, small, bad_list, passes, has_rows, done}
use Rattle.packs.proofs.unpacking.unpack.Goals as goal

pub returns-then-length-gt-ROW_LIMIT : goal.returns-then-length-gt-ROW_LIMIT
returns-then-length-gt-ROW_LIMIT c =
    let a = c.args in
    full a.list.now a.length a.out.now c.if-length-gt-ROW_LIMIT.true

pub returns-then-out-length : goal.returns-then-out-length
returns-then-out-length c =
    let a = c.args in
    small a.list.now a.length a.out.now c.if-length-gt-ROW_LIMIT.false c.if-out-length.true

pub returns-in_default : goal.returns-in_default
returns-in_default c =
    let a = c.args in
    let checked = sym c.in_default.is ∙ c.check.ensures in
    bad_list a.list.now a.length a.out.now c.if-length-gt-ROW_LIMIT.false c.if-out-length.false checked

pub slice_bounds-unpack_into-end-2 : goal.slice_bounds-unpack_into-end-2
slice_bounds-unpack_into-end-2 c =
    let a = c.args in
    sym (length-take-le a.length a.out.now c.if-out-length.false)

pub unpack_into-requires : goal.unpack_into-requires
unpack_into-requires c =
    let a = c.args in
    let checked = sym c.in-Ok.is ∙ c.check.ensures in
    let can = passes a.list.now a.length a.out.now c.if-length-gt-ROW_LIMIT.false c.if-out-length.false checked in
    has_rows a.list.now a.length a.out.now can

pub returns : goal.returns
returns c =
    let a = c.args in
    let checked = sym c.in-Ok.is ∙ c.check.ensures in
    let can = passes a.list.now a.length a.out.now c.if-length-gt-ROW_LIMIT.false c.if-out-length.false checked in
    let rows = c.unpack_into in
    done a.list.now a.length a.out.now can rows.new.out rows.ensures
