-- `put_bytes` meets its contract, a byte after the other. Assumes nothing.
use mathlib.Core.Path.{refl}
use native.Mathlib.Nat.{div-one}
use native.Mathlib.Numerals.{add-one, add-two, add-three, add-four, add_five, add_six, add_seven}
use native.Mathlib.Omega.{arith}
use lib.ListN.{length-set}
use lib.Pow.{shr-shr}
use Rattle.groups.proofs.eights.put_bytes.Goals as goal

pub bounds-out-at-2 : goal.bounds-out-at-2
bounds-out-at-2 c = simp length-set (omega arith)

pub bounds-out-at-3 : goal.bounds-out-at-3
bounds-out-at-3 c = simp length-set (omega arith)

pub bounds-out-at-4 : goal.bounds-out-at-4
bounds-out-at-4 c = simp length-set (omega arith)

pub bounds-out-at-5 : goal.bounds-out-at-5
bounds-out-at-5 c = simp length-set (omega arith)

pub bounds-out-at-6 : goal.bounds-out-at-6
bounds-out-at-6 c = simp length-set (omega arith)

pub bounds-out-at-7 : goal.bounds-out-at-7
bounds-out-at-7 c = simp length-set (omega arith)

pub bounds-out-at-8 : goal.bounds-out-at-8
bounds-out-at-8 c = simp length-set (omega arith)

pub returns : goal.returns
returns c =
    let number = c.args.number in
    rw (
      c.eight_bits.ensures,
      c.eight_bits-2.ensures,
      c.eight_bits-3.ensures,
      c.eight_bits-4.ensures,
      c.eight_bits-5.ensures,
      c.eight_bits-6.ensures,
      c.eight_bits-7.ensures,
      c.eight_bits-8.ensures,
      div-one number,
      shr-shr number 8 8,
      shr-shr number 16 8,
      shr-shr number 24 8,
      shr-shr number 32 8,
      shr-shr number 40 8,
      shr-shr number 48 8,
      add-one,
      add-two,
      add-three,
      add-four,
      add_five,
      add_six,
      add_seven,
    )
    refl
