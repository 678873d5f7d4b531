-- Definitions that the contracts of inner functions alone cite.
use Rattle.std.specs.Prelude.{◌≡◌, List, ◌++◌, Bool, not, ◌&&◌, ℕ, ◌+◌, ◌-◌, ◌<◌, ◌≤◌, ◌*◌, length, drop, replicate, take, eqb}
use Rattle.words.specs.Words.{decode, all_ones, encode}
use Rattle.words.specs.Inner.{Alone, after, last_words}
use Rattle.combinations.specs.declared.span.Span.{Span}
use Rattle.words.specs.declared.writer.Pending.{Pending}
use Rattle.lists.specs.Combine.{exclusive, combined}
use Rattle.combinations.specs.declared.copying.Reach.{Reach}
use Rattle.combinations.specs.declared.copying.Copying.{Copying}

-- what is left of a list: so many times one group, then the groups of the words from a place on
abbrev pub remaining : List ℕ → Span → List ℕ
remaining list span = replicate span.left span.group ++ decode (drop span.next list)

-- a span without its first groups
abbrev pub shorter : Span → ℕ → Span
shorter span count = record { group = span.group; left = span.left - count; next = span.next }

-- a span without so many of the words after it
abbrev pub past : Span → ℕ → Span
past span words = record { group = span.group; left = span.left; next = span.next + words }

-- a span of the same groups that has one at hand
pub record Opened (list : List ℕ) (before after : Span) : Type 0 where
  pub same : remaining list before ≡ remaining list after
  pub some : 0 < after.left
  pub alone : Alone after.group after.left
  pub small : after.group < 0x80000000
  pub near : after.next ≤ length list

-- whether a run that is pending goes on with the group
unfoldable pub goes_on : Pending → ℕ → Bool
goes_on pending group = not (eqb pending.count 0) && eqb group (pending.bit * all_ones)

-- the first words of a list end before the last of its first `zeros` groups
pub record Reaches (list : List ℕ) (zeros : ℕ) (reach : Reach) : Type 0 where
  pub inside : reach.words < length list
  pub counts : reach.groups ≡ length (decode (take reach.words list))
  pub within : reach.groups < zeros

-- the XOR of what is left of a list and of a span with any groups after it
abbrev pub xor_from : List ℕ → Span → Span → List ℕ → List ℕ
xor_from list from other others = combined exclusive (remaining list from) (replicate other.left other.group ++ others)

-- no word is copied, and the run stays pending
abbrev pub not_copied : Pending → Copying
not_copied pending = record { ended = record { bit = 0; count = 0 }; words = 0; groups = 0; pending = pending }

-- some words are copied: whatever groups follow, the words of all are that of the run ended, those copied, and then those of what is left
pub record Copies (list : List ℕ) (from other : Span) (pending : Pending) (copying : Copying) : Type 0 where
  pub first : (others : List ℕ) → let rest = xor_from list from other others in
      encode (after pending rest) ≡ last_words copying.ended ++ encode (after copying.pending rest)
  pub then : (others : List ℕ)
      → encode (after copying.pending (xor_from list from other others))
      ≡ take copying.words (drop from.next list)
      ++ encode (after copying.pending (xor_from list (past from copying.words) (shorter other copying.groups) others))
  pub inside : from.next + copying.words ≤ length list
  pub within : copying.groups < other.left
  pub covers : length (remaining list (past from copying.words)) + copying.groups ≡ length (remaining list from)
  pub are_bits : (copying.ended.bit < 2) × (copying.pending.bit < 2)
  pub shrinks : (copying.ended.count ≤ pending.count) × (copying.pending.count ≤ pending.count)
