-- Words of a list that are passed within the zeros of another: one word more, and what is written of them. Assumes nothing.
use mathlib.Core.Path.{◌≡◌, refl, ◌∙◌, ap, sym}
use mathlib.Core.Bool.{Bool, true, false, cond, and-eq-true_iff}
use mathlib.Core.List.{List, [], ◌∷◌, ◌++◌, map, map-append}
use Prim.Native.Nat.{ℕ, suc, zero, ◌+◌, ◌*◌, ◌-◌, ◌<◌, ◌≤◌}
use native.Mathlib.Omega.{arith}
use native.Mathlib.Nat.{add-zero, sub-zero}
use lib.ListN.{length, get_or, take, drop, replicate, length-append, length-drop, length-replicate}
use lib.Seq.{take-add, take_all, take_at, drop-drop, drop_at, get_or-drop}
use borrow.Author.Tests.{ne_eqb, eq-eqb}
use Rattle.words.specs.Words.{all_ones, run_of, span, group_in, groups_in, decode, encode, no_fill, well_formed}
use Rattle.words.specs.Inner.{after, last_words}
use Rattle.words.specs.declared.writer.Pending.{Pending}
use Rattle.words.proofs.Copied.{up_to, apart_words, ends_pending, copied_words}
use Rattle.words.proofs.Forms.{run_at, bit_past, groups-append, decode_split, length_split, length_from, length_upto, decode-from, word_left, form_split}
use Rattle.words.proofs.Runs.{joins}
use Rattle.words.proofs.Round.{Words, decode-groups}
use Rattle.lists.specs.Combine.{exclusive, on_group, combined}
use Rattle.lists.specs.Inner.{Formed}
use Rattle.combinations.specs.Inner.{goes_on, Reaches, not_copied, Copies}
use Rattle.combinations.specs.declared.span.Span.{Span}
use Rattle.combinations.specs.declared.copying.Reach.{Reach}
use Rattle.lists.proofs.Combining.{combined-append, combined_spans}
use Rattle.lists.proofs.Covering.{word_small, form_filled}
use Rattle.lists.proofs.Exclusive.{xor-zeros}

-- ---- words passed

-- words that do not cover all groups are not all words
not_all : (list : List ℕ) (words : ℕ) → length (decode (take words list)) < length (decode list) → words < length list
not_all list words h = word_left list words (omega (arith, length_split list words))

-- the next word ends within the list
pub next-few : (list : List ℕ) (zeros : ℕ) (reach : Reach) → Reaches list zeros reach
    → reach.groups + span (run_at list reach.words) ≤ length (decode list)
next-few list zeros reach r = omega (arith, r.counts, length_split list reach.words, length_from list reach.words r.inside)

-- the next words of a list behind those passed, so many of them, and the words left after them
pub record Next (list : List ℕ) (words count : ℕ) (next left : List ℕ) : Type 0 where
  pub parts : drop words list ≡ next ++ left
  pub long : length next ≡ count

pub next_of : (list : List ℕ) (words : ℕ) {next left behind : List ℕ} {size count : ℕ} → behind ≡ drop words list → size ≡ count
    → (behind ≡ next ++ left) × (length next ≡ size) → Next list words count next left
next_of list words b s c = record { parts = sym b ∙ c.0; long = c.1 ∙ s }

module _ {list next left : List ℕ} {words count : ℕ} (n : Next list words count next left) where
  next_words : take count (drop words list) ≡ next
  next_words = rw n.parts (take_at next left count n.long)

  pub left_behind : left ≡ drop (words + count) list
  left_behind = sym (sym (drop-drop count words list) ∙ ap (drop count) n.parts ∙ drop_at next left count n.long)

  pub covered_upto : length (decode (take (words + count) list)) ≡ length (decode (take words list)) + length (decode next)
  covered_upto =
      let front = take words list in
      rw (take-add words count list, next_words)
      (ap length (ap groups_in (map-append run_of front next) ∙ groups-append (map run_of front) (map run_of next)) ∙ length-append (decode front) (decode next))

-- the words from a place on, as they are lent
pub all-behind : (list : List ℕ) (place : ℕ) → take (length list - place) (drop place list) ≡ drop place list
all-behind list place = take_all (length list - place) (drop place list) (omega (arith, length-drop place list))

-- the span of one of them is that of the word at its place
pub span_behind : (list : List ℕ) (from i : ℕ) {count place : ℕ} → count ≡ span (run_of (get_or (take (length list - from) (drop from list)) i 0))
    → place ≡ from + i → count ≡ span (run_at list place)
span_behind list from i e p = rw (p, ← get_or-drop from list i 0, ← all-behind list from) e

-- words that cover fewer groups than the zeros
pub reaches : (list : List ℕ) (zeros words groups : ℕ) → zeros ≤ length (decode list) → groups ≡ length (decode (take words list)) → groups < zeros
    → Reaches list zeros (record { words = words; groups = groups })
reaches list zeros words groups most e h = record { inside = not_all list words (omega (arith, e)); counts = e; within = h }

-- the words passed reach so far with the next word too, where that ends in front of the last of the zeros
pub one-more : (list : List ℕ) (zeros : ℕ) (reach : Reach) (count : ℕ) → zeros ≤ length (decode list)
    → Reaches list zeros reach → count ≡ span (run_at list reach.words) → reach.groups + count < zeros
    → Reaches list zeros (record { words = reach.words + 1; groups = reach.groups + count })
one-more list zeros reach count most r e h =
    reaches list zeros (reach.words + 1) (reach.groups + count) most (omega (arith, e, r.counts, length_upto list reach.words r.inside)) h

-- ---- what is written of them

-- an XOR with zeros leaves a group as it is
xor-zero : (group : ℕ) → group < 0x80000000 → on_group exclusive group 0 ≡ group
xor-zero group small = ap (λ (l : List ℕ). get_or l 0 0) (xor-zeros 1 (group ∷ []) below refl)
  where
    below : (i : ℕ) → get_or (group ∷ []) i 0 < 0x80000000
    below zero = small
    below (suc i) = omega arith

-- a run that does not go on has another group after it
ends_differs : (pending : Pending) (group : ℕ) → goes_on pending group ≡ false → 0 < pending.count → group ≡ pending.bit * all_ones → ⊥
unfolding goes_on
ends_differs pending group e some same =
    let z : ◌≡◌ {A = Bool} true false = rw (ne_eqb pending.count 0 (λ z. omega arith), eq-eqb group (pending.bit * all_ones) same) at e in
    let n : ◌≡◌ {A = ℕ} 1 0 = ap (λ (b : Bool). cond b 1 0) z in
    omega arith

-- the groups of words beside zeros
module _ (list : List ℕ) (zeros : ℕ) (reach : Reach) (r : Reaches list zeros reach) (others : List ℕ) where
  abbrev rest : List ℕ
  rest = combined exclusive (decode (drop reach.words list)) (replicate (zeros - reach.groups) 0 ++ others)

  passed : combined exclusive (decode list) (replicate zeros 0 ++ others) ≡ decode (take reach.words list) ++ rest
  passed =
      let count : zeros ≡ reach.groups + (zeros - reach.groups) = omega (arith, r.within) in
      let long : length (decode (take reach.words list)) ≡ reach.groups = sym r.counts in
      rw (decode_split list reach.words)
      (ap (λ (n : ℕ). combined exclusive (decode (take reach.words list) ++ decode (drop reach.words list)) (replicate n 0 ++ others)) count
      ∙ rw (← joins 0 reach.groups (zeros - reach.groups) others)
      (combined-append exclusive (decode (take reach.words list)) (replicate reach.groups 0) (decode (drop reach.words list))
      (replicate (zeros - reach.groups) 0 ++ others) (long ∙ sym (length-replicate reach.groups 0))
      ∙ ap (λ (l : List ℕ). l ++ rest) (xor-zeros reach.groups (decode (take reach.words list)) (decode-groups (take reach.words list)) long)))

  -- the group after them
  abbrev tail : List ℕ
  tail =
      let run = run_at list reach.words in
      combined exclusive (replicate (span run - 1) (group_in run) ++ decode (drop (reach.words + 1) list)) (replicate (zeros - reach.groups - 1) 0 ++ others)

  goes_on_lem : 0 < span (run_at list reach.words) → rest ≡ group_in (run_at list reach.words) ∷ tail
  goes_on_lem some =
      let run = run_at list reach.words in
      rw (decode-from list reach.words r.inside)
      (combined_spans exclusive 1 (span run) (zeros - reach.groups) (group_in run) 0 (decode (drop (reach.words + 1) list)) others
      (omega arith) (omega (arith, r.within))
      ∙ ap (λ (g : ℕ). g ∷ tail) (xor-zero (group_in run) (word_small list reach.words)))

  -- so they stand in front of the group that comes next in the list
  stands : 0 < span (run_at list reach.words) → combined exclusive (decode list) (replicate zeros 0 ++ others) ≡ up_to list reach.words tail
  stands some = passed ∙ ap (◌++◌ (decode (take reach.words list))) (goes_on_lem some)

  module _ (before : ℕ) (form : well_formed before (map run_of list) ≡ true) where
    some_span : 0 < span (run_at list reach.words)
    some_span = form_filled before list form reach.words r.inside

    stretch_ends : (pending : Pending) → pending.bit < 2 → goes_on pending (group_in (run_at list 0)) ≡ false
        → encode (after pending (combined exclusive (decode list) (replicate zeros 0 ++ others)))
        ≡ last_words pending ++ encode (combined exclusive (decode list) (replicate zeros 0 ++ others))
    stretch_ends pending is_bit e =
        rw (stands some_span)
        (ends_pending pending (up_to list reach.words tail) is_bit
        (λ some. apart_words pending.bit before list reach.words tail form r.inside (ends_differs pending (group_in (run_at list 0)) e some)))

    stretch_copied : Words list
        → encode (combined exclusive (decode list) (replicate zeros 0 ++ others)) ≡ take reach.words list ++ encode rest
    stretch_copied words =
        ap encode (stands some_span)
        ∙ copied_words before list reach.words tail words form r.inside
        ∙ ap (λ (l : List ℕ). take reach.words list ++ encode l) (sym (goes_on_lem some_span))

-- ---- the plan

module _ (list : List ℕ) (from other : Span) (pending : Pending) (is_bit : pending.bit < 2) (some : 0 < other.left) (near : from.next ≤ length list) where
  -- no word is copied
  pub copies_none : Copies list from other pending (not_copied pending)
  copies_none =
      record {
        first = λ others. refl;
        then = λ others. rw (add-zero from.next, sub-zero other.left) refl;
        inside = omega arith;
        within = some;
        covers = rw (add-zero from.next) (add-zero _);
        are_bits = (omega arith, is_bit);
        shrinks = (omega arith, omega arith);
      }

  -- the words passed are copied, where the span is used up and the other one is of zeros
  module _ (words : Words list) (form : Formed list) (used : from.left ≡ 0) (zeros : other.group ≡ 0)
      (e : goes_on pending (group_in (run_at list from.next)) ≡ false)
      (reach : Reach) (r : Reaches (drop from.next list) other.left reach) where
    abbrev behind : List ℕ
    behind = drop from.next list

    before : ℕ
    before = bit_past no_fill (map run_of (take from.next list))

    form_behind : well_formed before (map run_of behind) ≡ true
    unfolding before
    form_behind = ((and-eq-true_iff (well_formed no_fill (map run_of (take from.next list))) _).0 (sym (form_split list from.next no_fill) ∙ form)).1

    words-behind : Words behind
    words-behind i = rw get_or-drop (words (from.next + i))

    ends_first : goes_on pending (group_in (run_at behind 0)) ≡ false
    ends_first = rw (get_or-drop, add-zero) e

    further : drop (from.next + reach.words) list ≡ drop reach.words behind
    further = sym (drop-drop reach.words from.next list)

    pub copies_some : Copies list from other pending
        (record { ended = pending; words = reach.words; groups = reach.groups; pending = record { bit = 0; count = 0 } })
    copies_some =
        record {
          first = λ others. rw (used, zeros) (stretch_ends behind other.left reach r others before form_behind pending is_bit ends_first);
          then = λ others. rw (used, zeros, further) (stretch_copied behind other.left reach r others before form_behind words-behind);
          inside = omega (arith, r.inside, length-drop from.next list);
          within = r.within;
          covers = rw (used, further) (omega (arith, r.counts, length_split behind reach.words));
          are_bits = (is_bit, omega arith);
          shrinks = (omega arith, omega arith);
        }
