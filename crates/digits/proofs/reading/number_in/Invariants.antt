-- `number_in` takes in one digit a turn: what is read so far stands before the digits that are left.
use mathlib.Core.Path.{◌≡◌}
use Prim.Native.Nat.{◌<◌, ◌^◌}
use lib.ListN.{drop}
use Rattle.digits.specs.Digits.{number_from, number_in}
use Rattle.digits.proofs.reading.number_in.Given as goal

abbrev pub invariant-loop-digit : goal.invariant-loop-digit
invariant-loop-digit l = (l.number < 16 ^ l.digit-index) × (number_from l.number (drop l.digit-index l.digits) ≡ number_in l.digits)
