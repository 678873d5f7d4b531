-- Inputs that are too long for any frame: the program need not read them to their end. Assumes nothing.
use mathlib.Core.Path.{◌≡◌, refl, ◌∙◌, sym}
use mathlib.Core.Bool.{Bool, true, false}
use mathlib.Core.List.{List}
use Prim.Native.Nat.{ℕ, ◌<◌}
use native.Mathlib.Omega.{arith}
use lib.Dec.{leb}
use lib.ListN.{length, take}
use lib.Seq.{length-take-le, take_all}
use borrow.Author.Tests.{leb-true, leb-false}
use Rattle.answers.specs.Numbers.{number_of}
use Rattle.answers.specs.declared.Refusal.TheVariants.{BadFrame}
use Rattle.print.specs.Frame.{line_length, line_in}
use Rattle.print.specs.Text.{refusal_line}
use Rattle.print.specs.Printed.{printed}
use Rattle.print.proofs.Frames.{line_short, line_long, too_long}
use Rattle.print.proofs.Lines.{bad_frame}

-- THEOREM: an input of more than 8,017 bytes, the longest line and its newline, is BAD_FRAME
pub long_input : (input : List ℕ) → 8017 < length input → printed input ≡ refusal_line (number_of BadFrame)
unfolding printed line_in
long_input input h =
    let long = length-take-le (line_length input) input (line_short input) in
    sym (bad_frame (line_in input) (too_long (line_in input) (omega (arith, long, line_long input))))

-- THEOREM: the first 8,018 bytes decide what is printed
pub first_bytes : (input : List ℕ) → printed (take 8018 input) ≡ printed input
first_bytes input = go (leb (length input) 8018) refl
  where
    go : (few : Bool) → leb (length input) 8018 ≡ few → printed (take 8018 input) ≡ printed input
    go true e = rw (take_all 8018 input (leb-true (length input) 8018 e)) refl
    go false e =
        let many = leb-false (length input) 8018 e in
        let first = length-take-le 8018 input (omega arith) in
        long_input (take 8018 input) (omega arith) ∙ sym (long_input input (omega arith))
