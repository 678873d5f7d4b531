-- `is_ones_fill` meets its contract: a shift by 30 leaves bits 31 and 30, which are both set from 3 * 2 ^ 30 on. Assumes nothing.
use Prim.Native.Nat.{◌/◌}
use native.Mathlib.Omega.{arith}
use Rattle.words.proofs.word.Reading.{high_bits}
use Rattle.words.proofs.word.is_ones_fill.Goals as goal

pub returns : goal.returns
returns c = high_bits (c.args.word / 0x40000000) 3 0xC0000000 c.args.word (λ e. omega arith) (λ h. omega arith)
