-- `put_rows`: all 31 rows at a time, or as many as there is room for. Assumes nothing.
use mathlib.Core.Path.{◌∙◌, sym}
use native.Mathlib.Omega.{arith}
use lib.ListN.{length}
use lib.Seq.{take_all}
use Rattle.groups.specs.Rows.{bits_of}
use Rattle.groups.proofs.Group.{length-bits_of}
use Rattle.groups.proofs.rows.put_rows.Goals as goal

pub returns-then-out-eq31 : goal.returns-then-out-eq31
returns-then-out-eq31 c =
    let args = c.args in
    c.put_whole.ensures
    ∙ sym (take_all (length args.out.now) (bits_of 31 args.group) (omega (arith, length-bits_of 31 args.group)))
