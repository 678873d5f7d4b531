-- `put_frame` reads the column and the four numbers from their places, and has their load printed.
use mathlib.Core.Path.{sym, ap}
use Prim.Native.Nat.{◌≤◌}
use native.Mathlib.Omega.{arith}
use lib.ListN.{length, take, drop, replicate, length-drop, length-append}
use lib.Seq.{length-take-le}
use Rattle.groups.proofs.Sets.{front}
use Rattle.print.specs.Frame.{column_in}
use Rattle.print.proofs.Frames.{frame_length, rest_of_line}
use Rattle.print.proofs.Lines.{frame_printed}
use Rattle.print.proofs.printing.put_frame.Goals as goal

pub slice_bounds-read_column-count : goal.slice_bounds-read_column-count
slice_bounds-read_column-count c = (frame_length c.args.line.now c.requires.0).0

pub slice_bounds-read_column-start : goal.slice_bounds-read_column-start
slice_bounds-read_column-start c = omega (arith, (frame_length c.args.line.now c.requires.0).0)

pub read_column-count-requires : goal.read_column-count-requires
read_column-count-requires c =
    let line = c.args.line.now in
    rw rest_of_line (omega (arith, length-drop 16 line, frame_length line c.requires.0))

pub number_at-rows-requires : goal.number_at-rows-requires
number_at-rows-requires c =
    let long = (frame_length c.args.line.now c.requires.0).0 in (omega arith, omega arith, omega (arith, long))

pub number_at-values-requires : goal.number_at-values-requires
number_at-values-requires c =
    let long = (frame_length c.args.line.now c.requires.0).0 in (omega arith, omega arith, omega (arith, long))

pub number_at-threshold-requires : goal.number_at-threshold-requires
number_at-threshold-requires c =
    let long = (frame_length c.args.line.now c.requires.0).0 in (omega arith, omega arith, omega (arith, long))

pub number_at-spacing-requires : goal.number_at-spacing-requires
number_at-spacing-requires c =
    let long = (frame_length c.args.line.now c.requires.0).0 in (omega arith, omega arith, omega (arith, long))

pub slice_bounds-column-end : goal.slice_bounds-column-end
slice_bounds-column-end c =
    let read = c.read_column-count.ensures in omega (arith, read.0, simp length-append at (ap length read.1))

pub slice_bounds-put_column-end : goal.slice_bounds-put_column-end
slice_bounds-put_column-end c =
    let read = c.read_column-count.ensures in
    let fits : c.read_column-count.result ≤ length c.read_column-count.new.column = omega (arith, read.0, simp length-append at (ap length read.1)) in
    sym (length-take-le c.read_column-count.result c.read_column-count.new.column fits)

pub returns : goal.returns
returns c =
    let count = c.read_column-count.result in
    let column = c.read_column-count.new.column in
    let read = rw rest_of_line at c.read_column-count.ensures in
    let in_front = front column (column_in (drop 16 c.args.line.now)) (drop count (replicate 4000 0)) count read.0 read.1 in
    rw (← frame_printed c.args.line.now c.requires.0 (take count column) in_front)
    (rw (c.number_at-rows.ensures, c.number_at-values.ensures, c.number_at-threshold.ensures, c.number_at-spacing.ensures)
    at c.put_column.ensures)
