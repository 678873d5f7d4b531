-- `is_fill` meets its contract: a shift by 31 leaves bit 31, which is set from 2 ^ 31 on. Assumes nothing.
use Prim.Native.Nat.{◌/◌}
use native.Mathlib.Omega.{arith}
use Rattle.words.proofs.word.Reading.{high_bits}
use Rattle.words.proofs.word.is_fill.Goals as goal

pub returns : goal.returns
returns c = high_bits (c.args.word / 0x80000000) 1 0x80000000 c.args.word (λ e. omega arith) (λ h. omega arith)
