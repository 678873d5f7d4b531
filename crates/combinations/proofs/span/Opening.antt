-- The next word of a list is opened where a span is used up. Assumes nothing.
use mathlib.Core.Path.{◌≡◌, refl, ◌∙◌}
use mathlib.Core.List.{List}
use Prim.Native.Nat.{ℕ, ◌+◌, ◌<◌}
use native.Mathlib.Omega.{arith}
use lib.ListN.{length, drop, replicate, length-append, length-replicate}
use Rattle.words.specs.Words.{Run, Run.literal, Run.fill, span, group_in, decode}
use Rattle.words.specs.Inner.{Alone}
use Rattle.words.proofs.Forms.{run_at, decode-from, word_left}
use Rattle.words.proofs.Round.{Narrow, read_narrow}
use Rattle.lists.specs.Inner.{Filled}
use Rattle.lists.proofs.Covering.{word_small}
use Rattle.combinations.specs.Inner.{remaining, Opened}
use Rattle.combinations.specs.declared.span.Span.{Span}

pub length-remaining : (list : List ℕ) (at-hand : Span) → length (remaining list at-hand) ≡ at-hand.left + length (decode (drop at-hand.next list))
length-remaining list at-hand = length-append (replicate at-hand.left at-hand.group) (decode (drop at-hand.next list)) ∙ rw length-replicate refl

run_alone : (run : Run) → Narrow run → Alone (group_in run) (span run)
run_alone (literal group) narrow none all = omega arith
run_alone (fill bit count) narrow none all = absurd (omega arith)

-- a span that is used up where groups are left has a word to open
module _ (list : List ℕ) (used : Span) (none : used.left ≡ 0) (some : 0 < length (remaining list used)) where
  pub opens_at : used.next < length list
  opens_at = word_left list used.next (omega (arith, length-remaining list used))

  pub opens : Filled list
      → Opened list used (record { group = group_in (run_at list used.next); left = span (run_at list used.next); next = used.next + 1 })
  opens filled =
      record {
        same = rw none (decode-from list used.next opens_at);
        some = filled used.next opens_at;
        alone = run_alone (run_at list used.next) (read_narrow _);
        small = word_small list used.next;
        near = omega (arith, opens_at);
      }
