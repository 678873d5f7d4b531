-- Laws of the lines that answers print. Assumes nothing.
use Rattle.std.specs.Prelude.{Ok, Err, Result}
use mathlib.Core.Path.{◌≡◌, refl, ◌∙◌, sym}
use mathlib.Core.Bool.{Bool, true, false}
use mathlib.Core.List.{List, [], ◌∷◌}
use Prim.Native.Nat.{ℕ, zero, suc, ◌+◌, ◌*◌, ◌<◌, ◌≤◌}
use native.Mathlib.Nat.{zero-add, suc-mul}
use native.Mathlib.Omega.{arith}
use lib.Dec.{leb}
use lib.ListN.{length, take, drop, replicate, length-append, length-replicate}
use lib.Seq.{sets, take-append_seam}
use borrow.Author.Tests.{leb-true, leb-false}
use Rattle.answers.specs.Numbers.{number_of, paper}
use Rattle.answers.specs.Outcome.{Check, ◌when◌, outcome, Gives}
use Rattle.answers.specs.declared.Refusal.{Refusal}
use Rattle.answers.specs.declared.Refusal.TheVariants.{BadFrame}
use Rattle.answers.proofs.Accepted.{Passes, no_zero}
use Rattle.memory.specs.Memory.{Memory}
use Rattle.index.specs.Calls.{query_checks, query_list, query_outcome}
use Rattle.memory.specs.declared.header.Header.{Header}
use Rattle.memory.proofs.Places.{one_more}
use Rattle.print.specs.Frame.{is_frame, rows_in, values_in, threshold_in, spacing_in, column_in}
use Rattle.print.specs.Text.{value_line, refusal_line}
use Rattle.print.specs.Printed.{unless_refused, answer_line, query_line, value_lines, column_lines, frame_lines}
use Rattle.groups.proofs.Sets.{sets-append}
use Rattle.print.proofs.Stores.{length-value, length_refusal}

-- a number above 0 refuses
pub refused : (number : ℕ) (lines : List ℕ) → 0 < number → unless_refused number lines ≡ refusal_line number
refused zero lines h = absurd (omega arith)
refused (suc number) lines h = refl

-- and so does the number of every refusal
pub refusal_line_lem : (refusal : Refusal) (lines : List ℕ) → unless_refused (number_of refusal) lines ≡ refusal_line (number_of refusal)
refusal_line_lem refusal lines = refused (number_of refusal) lines (positive (number_of refusal) refl)
  where
    positive : (number : ℕ) → number_of refusal ≡ number → 0 < number
    positive zero e = absurd (no_zero refusal e)
    positive (suc number) e = omega arith

-- the line of a Query that is done, and of one that is refused
module _ (value : ℕ) (answer : Result ℕ Refusal) (list : List ℕ) where
  pub done_line : (count : ℕ) → answer ≡ Ok count → answer_line value (paper answer) list ≡ value_line value (take count list)
  unfolding answer_line
  done_line count e = rw e refl

  pub refused_line : (refusal : Refusal) → answer ≡ Err refusal → answer_line value (paper answer) list ≡ refusal_line (number_of refusal)
  unfolding answer_line
  refused_line refusal e = rw e (refusal_line_lem refusal (value_line value (take 0 list)))

-- ---- the line of an outcome

-- its output where the checks pass or refuse does not matter
abbrev outcome_line : ℕ → List Check → List ℕ → List ℕ → List ℕ
outcome_line value checks result out = answer_line value (outcome checks result out).answer (outcome checks result out).output

same_line : (value : ℕ) (checks : List Check) (result out other : List ℕ) → outcome_line value checks result out ≡ outcome_line value checks result other
unfolding answer_line
same_line value [] result out other = rw (take-append_seam result (drop (length result) out), take-append_seam result (drop (length result) other)) refl
same_line value (refusal when true ∷ checks) result out other =
    refusal_line_lem refusal (value_line value (take 0 out)) ∙ sym (refusal_line_lem refusal (value_line value (take 0 other)))
same_line value (refusal when false ∷ checks) result out other = same_line value checks result out other

count_fits : (checks : List Check) (result out : List ℕ) → (outcome checks result out).answer.count ≤ length (outcome checks result out).output
count_fits [] result out = omega (arith, length-append result (drop (length result) out))
count_fits (refusal when true ∷ checks) result out = omega arith
count_fits (refusal when false ∷ checks) result out = count_fits checks result out

-- a line is as long as its result or its refusal makes it
short_line : (value : ℕ) (checks : List Check) (result out : List ℕ) (most : ℕ) → 5 ≤ most → (Passes checks → 8 * length result + 3 ≤ most)
    → length (outcome_line value checks result out) ≤ most
unfolding answer_line
short_line value [] result out most h fits =
    rw (take-append_seam result (drop (length result) out)) (omega (arith, length-value value result, fits tt))
short_line value (refusal when true ∷ checks) result out most h fits =
    rw (refusal_line_lem refusal (value_line value (take 0 out))) (omega (arith, length_refusal (number_of refusal)))
short_line value (refusal when false ∷ checks) result out most h fits = short_line value checks result out most h (λ passes. fits (refl, passes))

-- ---- the line of a Query

module _ (header : Header) (memory : Memory) where
  same_checks : (value : ℕ) (out other : List ℕ) → length out ≡ length other → query_checks header memory value out ≡ query_checks header memory value other
  same_checks value out other e = rw e refl

  pub query_short : (value most : ℕ) → 5 ≤ most → (Passes (query_checks header memory value (replicate 4096 0)) → 8 * length (query_list header memory value) + 3 ≤ most)
      → length (query_line header memory value) ≤ most
  unfolding query_line query_outcome
  query_short value most h fits = short_line value (query_checks header memory value (replicate 4096 0)) (query_list header memory value) (replicate 4096 0) most h fits

  module _ (value : ℕ) (list : List ℕ) (long : length list ≡ 4096) (answer : Result ℕ Refusal) (left : List ℕ)
      (gives : Gives (query_outcome header memory value list) answer left) where
    pub asked-count : (paper answer).count ≤ length left
    unfolding query_outcome
    asked-count = rw (gives.answers, gives.leaves) (count_fits (query_checks header memory value list) (query_list header memory value) list)

    pub asked_line : answer_line value (paper answer) left ≡ query_line header memory value
    unfolding query_line query_outcome
    asked_line =
        rw (gives.answers, gives.leaves, same_checks value list (replicate 4096 0) (long ∙ sym (length-replicate {A = ℕ} 4096 0)))
        (same_line value (query_checks header memory value (replicate 4096 0)) (query_list header memory value) list (replicate 4096 0))

  -- ---- the lines of the first values

  more-lines : (value : ℕ) → length (value_lines header memory (suc value)) ≡ length (value_lines header memory value) + length (query_line header memory value)
  more-lines value = length-append (value_lines header memory value) (query_line header memory value)

  lines_grow : (few many : ℕ) → few ≤ many → length (value_lines header memory few) ≤ length (value_lines header memory many)
  lines_grow few zero h = let none : few ≡ 0 = omega arith in rw none (omega arith)
  lines_grow few (suc many) h = go (leb few many) refl (lines_grow few many)
    where
      go : (below : Bool) → leb few many ≡ below → (few ≤ many → length (value_lines header memory few) ≤ length (value_lines header memory many))
          → length (value_lines header memory few) ≤ length (value_lines header memory (suc many))
      go true e grow = omega (arith, grow (leb-true few many e), more-lines many)
      go false e grow = let all : few ≡ suc many = omega (arith, leb-false few many e) in rw all (omega arith)

  -- one line more
  module _ (value : ℕ) (out now : List ℕ) (next : ℕ) (at : next ≡ length (value_lines header memory value)) where
    pub line_fits : length now ≡ length out → value < header.values → length (value_lines header memory header.values) ≤ length out
        → next + length (query_line header memory value) ≤ length now
    line_fits long below room = omega (arith, lines_grow (suc value) header.values (omega arith), more-lines value)

    pub line_added : now ≡ sets out 0 (value_lines header memory value) → (after : ℕ) → after ≡ next + length (query_line header memory value)
        → (left : List ℕ) → left ≡ sets now next (query_line header memory value)
        → (after ≡ length (value_lines header memory (value + 1))) × (left ≡ sets out 0 (value_lines header memory (value + 1)))
    line_added is after e left f =
        rw (one_more value) (
          e ∙ rw at (sym (more-lines value)),
          f ∙ rw (is, at, sets-append out 0 (value_lines header memory value) (query_line header memory value), zero-add) refl,
        )

  pub lines_below : (most : ℕ) → ((value : ℕ) → length (query_line header memory value) ≤ most) → (values : ℕ) → length (value_lines header memory values) ≤ values * most
  lines_below most each zero = omega arith
  lines_below most each (suc values) = omega (arith, suc-mul values most, each values, lines_below most each values, more-lines values)

-- ---- a line

module _ (line : List ℕ) where
  pub frame_printed : is_frame line ≡ true → (column : List ℕ) → column ≡ column_in (drop 16 line)
      → column_lines (rows_in line) (values_in line) (threshold_in line) (spacing_in line) column ≡ frame_lines line
  unfolding frame_lines
  frame_printed is column e = rw (is, e) refl

  pub bad_frame : is_frame line ≡ false → refusal_line (number_of BadFrame) ≡ frame_lines line
  unfolding frame_lines
  bad_frame e = rw e refl
