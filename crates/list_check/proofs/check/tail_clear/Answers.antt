-- `tail_clear` meets its contract: a mask of the low bits is a remainder. Assumes nothing.
use Rattle.std.proofs.Common.{◌≡◌, ℕ, ◌*◌, ◌%◌, ◌^◌, ◌<◌, refl, ◌∙◌, one-mul, arith, pow_pos, shl_exact}
use lib.Bits.{and_mask}
use Rattle.list_check.proofs.check.tail_clear.Goals as goal

shifted : (unused : ℕ) → unused < 31 → 1 * 2 ^ unused % 4294967296 ≡ 2 ^ unused
shifted unused h = shl_exact 1 unused 32 (omega arith) (omega arith) ∙ one-mul (2 ^ unused)

pub overflow_sub-result : goal.overflow_sub-result
overflow_sub-result c = rw (shifted c.args.unused c.requires) (pow_pos c.args.unused)

pub returns : goal.returns
returns c = rw (shifted c.args.unused c.requires, and_mask c.args.group c.args.unused) refl
