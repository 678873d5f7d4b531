-- Each way out of a load on cleared memory, and of a line, prints its lines. Assumes nothing.
use Rattle.std.specs.Prelude.{Ok, Err}
use mathlib.Core.Path.{◌≡◌, refl, ◌∙◌}
use mathlib.Core.List.{List, ◌++◌}
use Prim.Native.Nat.{ℕ, ◌+◌, ◌≤◌}
use native.Mathlib.Omega.{arith}
use lib.ListN.{length, drop}
use lib.Seq.{sets}
use Rattle.answers.specs.Numbers.{number_of, paper}
use Rattle.memory.specs.Memory.{memory_of}
use Rattle.memory.specs.Outcomes.{Leaves}
use Rattle.index.specs.Calls.{load_after}
use Rattle.block_read.specs.declared.fence.Fence.{Fence}
use Rattle.memory.specs.declared.header.Changed.{Changed}
use Rattle.print.specs.Frame.{line_in}
use Rattle.print.specs.Text.{refusal_line}
use Rattle.print.specs.Printed.{cleared, unless_refused, value_lines, column_lines, frame_lines, printed}
use Rattle.print.proofs.Stores.{sets_over, length_refusal}
use Rattle.print.proofs.Lines.{refusal_line_lem}
use Rattle.print.proofs.Room.{column_short, frame_short}
use Rattle.answers.specs.declared.Refusal.{Refusal}

pub refusal_fits : (number : ℕ) (out : List ℕ) → 65536 ≤ length out → 0 + length (refusal_line number) ≤ length out
refusal_fits number out room = omega (arith, length_refusal number)

module _ (words : List ℕ) (fences : List Fence) (is : memory_of words fences ≡ cleared) (rows values threshold spacing : ℕ) (column out : List ℕ)
    (changed : Changed) (words_left : List ℕ) (fences-left : List Fence)
    (leaves : Leaves (load_after rows values threshold spacing column (memory_of words fences)) changed words_left fences-left)
  where
    abbrev lines : List ℕ
    lines = column_lines rows values threshold spacing column

    abbrev lists : List ℕ
    lists = value_lines changed.header (memory_of words_left fences-left) changed.header.values

    printed_by : lines ≡ unless_refused (paper changed.answer).number lists
    unfolding column_lines
    printed_by = rw (← is, leaves.answers, leaves.gives, leaves.leaves, leaves.keeps) refl

    -- refused
    pub refusal_printed : (refusal : Refusal) → changed.answer ≡ Err refusal → (number : ℕ) → number ≡ number_of refusal → (next : ℕ) (left : List ℕ)
        → (next ≡ 0 + length (refusal_line number)) × (left ≡ sets out 0 (refusal_line number)) → (next ≡ length lines) × (left ≡ sets out 0 lines)
    refusal_printed refusal e number n next left puts =
        let printed_line : lines ≡ refusal_line number = printed_by ∙ rw (e, n) (refusal_line_lem refusal lists) in
        rw printed_line (omega (arith, puts.0), puts.1)

    -- done
    module _ (count : ℕ) (e : changed.answer ≡ Ok count) where
      accepted : lines ≡ lists
      accepted = printed_by ∙ rw e refl

      pub lists_fit : 65536 ≤ length out → (list : List ℕ) → length list ≡ 4096 → (length list ≡ 4096) × (length lists ≤ length out)
      lists_fit room list long = (long, rw (← accepted) (omega (arith, column_short rows values threshold spacing column)))

      pub lists-printed : (next : ℕ) (left : List ℕ) → (next ≡ length lists) × (left ≡ sets out 0 lists) → (next ≡ length lines) × (left ≡ sets out 0 lines)
      lists-printed next left puts = rw accepted puts

-- what is written over the front of the output
pub line_printed : (input out : List ℕ) → 65536 ≤ length out → (next : ℕ) (left : List ℕ)
    → (next ≡ length (frame_lines (line_in input))) × (left ≡ sets out 0 (frame_lines (line_in input)))
    → (next ≡ length (printed input)) × (left ≡ printed input ++ drop next out)
unfolding printed
line_printed input out room next left puts =
    let fits = frame_short (line_in input) in (puts.0, puts.1 ∙ rw puts.0 (sets_over out (frame_lines (line_in input)) (omega arith)))
