-- `put_digits` writes the highest digit that is left in each turn: what is left to write gives the whole text.
use mathlib.Core.Path.{◌∙◌}
use Prim.Native.Nat.{◌+◌}
use lib.ListN.{length-set}
use Rattle.digits.proofs.Digits.{digit_put}
use Rattle.digits.proofs.writing.put_digits.Goals as goal

pub loop-i-preserved : goal.loop-i-preserved
loop-i-preserved c =
    let loop = c.loop-i in
    let args = c.args in (
      length-set loop.out (args.at + loop.i) c.hex_digit.result ∙ loop.invariant.0,
      rw c.hex_digit.ensures (digit_put loop.out args.at loop.i args.count args.number c.loop-i-test.true ∙ loop.invariant.1),
    )
