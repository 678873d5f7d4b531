-- A change of one value leaves a sound index, if the value's own lists are sound then and no row is in two values. Assumes nothing.
use mathlib.Core.Path.{◌≡◌, refl}
use mathlib.Core.Bool.{true, and-eq-true_iff}
use mathlib.Core.List.{List}
use Prim.Native.Nat.{ℕ, ◌<◌, ◌≤◌}
use lib.Dec.{leb}
use borrow.Author.Tests.{le-leb}
use Rattle.memory.specs.Memory.{Memory, limits, within_limits, sizes_of, block_at}
use Rattle.memory.specs.declared.header.Header.{Header}
use Rattle.index.specs.Soundness.{SoundLists, FencesRight, NoRowInTwo, Sound}
use Rattle.history.proofs.Changes.{Replaced, others_right}
use Rattle.history.proofs.SoundBlocks.{lists_later}
use Rattle.history.proofs.Tests.{of_each}

-- a header with so many rows issued
abbrev pub issuing : Header → ℕ → Header
issuing header issued =
    record { rows = header.rows; issued = issued; values = header.values; threshold = header.threshold; spacing = header.spacing }

issuing_within : (header : Header) (issued : ℕ) → within_limits header ≡ true → issued ≤ header.rows → within_limits (issuing header issued) ≡ true
unfolding within_limits
issuing_within header issued w few =
    let both = (and-eq-true_iff (limits header.rows header.values header.threshold header.spacing) (leb header.issued header.rows)).0 w in
    rw (both.0, le-leb issued header.rows few) refl

module _ (header : Header) (before after : Memory) (value : ℕ) (new : List ℕ) (s : Sound header before)
    (replaces : Replaced (sizes_of header) value before after new) where
  -- THEOREM: the index is sound after the change
  pub sound_after : (issued : ℕ) → header.issued ≤ issued → issued ≤ header.rows
      → SoundLists (sizes_of header) issued new → NoRowInTwo header after → Sound (issuing header issued) after
  sound_after issued more few lists apart =
      record {
        within = issuing_within header issued s.within few;
        words_lent = rw replaces.words.long s.words_lent;
        fences_lent = rw replaces.long_fences s.fences_lent;
        lists = of_each value (λ each. each < header.values → SoundLists (sizes_of header) issued (block_at (sizes_of header) after.words each))
            (λ h. rw replaces.words.own lists)
            (λ other differ h. rw (replaces.words.others other differ) (lists_later issued more (s.lists other h)));
        fences = of_each value (λ each. each < header.values → FencesRight (sizes_of header) after each)
            (λ h. replaces.right)
            (λ other differ h. others_right replaces other differ (s.fences other h));
        apart = apart;
      }
