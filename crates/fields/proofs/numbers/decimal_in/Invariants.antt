-- `decimal_in`: what is read so far and what is left spell what the field spells.
use mathlib.Core.Path.{◌≡◌}
use lib.ListN.{drop}
use Rattle.std.specs.Prelude.{Some}
use Rattle.fields.specs.Numbers.{decimal_from, decimal_in}
use Rattle.fields.proofs.numbers.decimal_in.Given as goal

abbrev pub invariant-loop-byte : goal.invariant-loop-byte
invariant-loop-byte l = decimal_from (Some l.value) (drop l.byte-index l.digits) ≡ decimal_in l.digits
