-- `put_eight` meets its contract: the bytes that it writes are the rows that the eight bits spell. Assumes nothing.
use mathlib.Core.Path.{◌∙◌, ap}
use mathlib.Core.List.{List}
use Prim.Native.Nat.{ℕ}
use lib.Seq.{sets}
use Rattle.groups.proofs.eights.put_eight.Goals as goal

pub returns : goal.returns
returns c =
    let args = c.args in
    c.put_bytes.ensures ∙ ap (λ (rows : List ℕ). sets args.out.now args.at rows) c.spread.ensures
