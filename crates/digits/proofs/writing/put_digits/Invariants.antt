-- `put_digits` writes the highest digit that is left in each turn: what is left to write gives the whole text.
use mathlib.Core.Path.{◌≡◌}
use Prim.Native.Nat.{◌+◌, ◌-◌}
use lib.ListN.{length}
use lib.Seq.{sets}
use Rattle.digits.specs.Digits.{hex_digits}
use Rattle.digits.proofs.writing.put_digits.Given as goal

abbrev pub invariant-loop-i : goal.invariant-loop-i
invariant-loop-i l = (length l.out ≡ length l.initial.out) × (sets l.out (l.at + l.i) (hex_digits (l.count - l.i) l.number) ≡ sets l.initial.out l.at (hex_digits l.count l.number))
