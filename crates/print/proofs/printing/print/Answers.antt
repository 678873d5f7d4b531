-- `print` takes the line without its newline.
use mathlib.Core.Path.{sym}
use native.Mathlib.Omega.{arith}
use lib.Seq.{length-take-le}
use Rattle.print.specs.Frame.{line_in}
use Rattle.print.proofs.Frames.{line_short}
use Rattle.print.proofs.printing.Exits.{line_printed}
use Rattle.print.proofs.printing.print.Goals as goal

pub slice_bounds-put_line-end : goal.slice_bounds-put_line-end
slice_bounds-put_line-end c =
    let input = c.args.input.now in
    let line = c.line_length-end in
    sym (length-take-le line.result input (omega (arith, line.ensures, line_short input)))

pub returns : goal.returns
unfolding line_in
returns c =
    let line = c.line_length-end in
    let put = c.put_line in
    line_printed c.args.input.now c.args.out.now c.requires put.result put.new.out (rw line.ensures at put.ensures)
