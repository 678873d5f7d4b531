-- A list seen from its end: words of zeros are passed, and the first other word has the last 1. Assumes nothing.
use mathlib.Core.Path.{◌≡◌, refl, ◌∙◌, ap, sym}
use mathlib.Core.Bool.{Bool, true, false}
use mathlib.Core.Logic.{by_cases}
use mathlib.Core.List.{List, [], ◌++◌}
use Prim.Native.Nat.{ℕ, zero, suc, ◌+◌, ◌*◌, ◌-◌, ◌/◌, ◌%◌, ◌^◌, ◌<◌, ◌≤◌}
use native.Mathlib.Nat.{mod-one, mod-eq_of_lt}
use native.Mathlib.Numerals.{add-one}
use native.Mathlib.Decide.{dec_lt}
use native.Mathlib.Omega.{arith}
use lib.Count.{under, count_trailing_zeros}
use lib.Dec.{leb, eqb, leb-zero, leb-suc-zero, leb-suc-suc}
use lib.ListN.{length, get_or, take, replicate}
use lib.Pow.{mod-pow-add}
use lib.Seq.{drop-nil}
use borrow.Author.Tests.{leb-true, leb-false, le-leb, lt-leb, ne_eqb}
use denote.Ref.{Bor}
use Rattle.std.specs.Iterator.{Yields}
use Rattle.std.specs.Iterator.Adapters.{rev_source, rev_steps}
use Rattle.std.proofs.Common.{Option, Some, None}
use Rattle.std.specs.Slice.Iter.{iter_rest, iter_steps_back}
use Rattle.std.specs.declared.iter.Rev.{Rev}
use Rattle.std.specs.declared.slice.Iter.{Iter}
use Rattle.std.proofs.lemmas.Iterator.Adapters.{YieldsList-from_rev_slice}
use Rattle.std.proofs.lemmas.Iterator.Consumers.{YieldsList-turn, YieldsList-end}
use Rattle.std.proofs.lemmas.List.{length-reverse, get_or-reverse, get_or_default}
use Rattle.groups.specs.Rows.{rows_of, clear_from}
use Rattle.words.specs.Words.{run_of, span, group_in, decode}
use Rattle.words.proofs.Forms.{run_at, decode_upto, length_upto}
use Rattle.groups.proofs.Groups.{rows_of-append}
use Rattle.words.proofs.Uniform.{rows_of-uniform}
use Rattle.groups.proofs.Tests.{same_test}
use Rattle.groups.proofs.Tail.{last_of, last_repeated, clear_tail, clear_from-row_at, row_at-clear_from}
use Rattle.groups.proofs.Zeros.{zeros-behind}
use Rattle.lists.specs.Inner.{Filled}
use Rattle.lists.proofs.Covering.{word_small}

-- ---- the machine's count of zeros below the lowest 1

low_digit : (high digit below j : ℕ) → eqb high 0 ≡ leb j below → eqb (high * 2 + digit) 0 ≡ leb (suc j) (under digit below)
low_digit zero zero below j e = e ∙ sym (leb-suc-suc j below)
low_digit (suc high) zero below j e =
    ne_eqb (suc high * 2 + 0) 0 (λ z. omega arith) ∙ sym (ne_eqb (suc high) 0 (λ z. omega arith)) ∙ e ∙ sym (leb-suc-suc j below)
low_digit high (suc digit) below j e = ne_eqb (high * 2 + suc digit) 0 (λ z. omega arith) ∙ sym (leb-suc-zero j)

-- so many of the lowest bits are 0 exactly where no fewer are counted
trailing_zeros : (j k n : ℕ) → j ≤ k → eqb (n % 2 ^ j) 0 ≡ leb j (count_trailing_zeros k n)
unfolding count_trailing_zeros
trailing_zeros zero k n h = rw (mod-one, leb-zero) refl
trailing_zeros (suc j) zero n h = absurd (omega arith)
trailing_zeros (suc j) (suc k) n h =
    ap (λ (i : ℕ). eqb (n % 2 ^ i) 0) (sym (add-one j))
    ∙ ap (λ (low : ℕ). eqb low 0) (mod-pow-add n j 1)
    ∙ low_digit (n / 2 % 2 ^ j) (n % 2) (count_trailing_zeros k (n / 2)) j (trailing_zeros j k (n / 2) (omega arith))

-- ---- the last 1 of some groups

clear_later : (row later : ℕ) (groups : List ℕ) → row ≤ later → clear_from later groups ≡ false → clear_from row groups ≡ false
clear_later row later groups h e = go (clear_from row groups) refl
  where
    go : (t : Bool) → clear_from row groups ≡ t → clear_from row groups ≡ false
    go true p = p ∙ sym (row_at-clear_from later groups (λ r k. clear_from-row_at row groups p r (omega arith))) ∙ e
    go false p = p

leb-sub : (m n k : ℕ) → leb (m - n) k ≡ leb m (n + k)
leb-sub m n k =
    same_test (leb (m - n) k) (leb m (n + k)) (λ e. le-leb m (n + k) (omega (arith, leb-true (m - n) k e)))
    (λ e. le-leb (m - n) k (omega (arith, leb-true m (n + k) e)))

module _ (row : ℕ) (groups : List ℕ) (some : last_of groups ≡ 0 → ⊥) (small : last_of groups < 0x80000000) where
  below : ℕ
  below = count_trailing_zeros 32 (last_of groups)

  below_few : below < 31
  unfolding below
  below_few =
      leb-false 31 below
      (sym (trailing_zeros 31 32 (last_of groups) (omega arith))
      ∙ ne_eqb (last_of groups % 2 ^ 31) 0 (λ e. some (sym (mod-eq_of_lt small) ∙ e)))

  -- from a row of the last group on, or past it
  clear_near : (from : ℕ) → 31 * length groups ≤ from + 31 → clear_from from groups ≡ leb (31 * length groups - from) below
  unfolding below
  clear_near from h = clear_tail from groups h ∙ trailing_zeros (31 * length groups - from) 32 (last_of groups) (omega arith)

  -- THEOREM: no row from the given one on is set exactly where the last 1 of the last group is before it
  clear_last : clear_from row groups ≡ leb (31 * length groups) (row + count_trailing_zeros 32 (last_of groups))
  unfolding below
  clear_last =
      by_cases (dec_lt (row + 31) (31 * length groups))
      (λ far.
      let last = 31 * length groups - 31 in
      clear_later row last groups (omega arith) (clear_near last (omega arith) ∙ lt-leb (31 * length groups - last) below (omega (arith, below_few)))
      ∙ sym (lt-leb (31 * length groups) (row + below) (omega (arith, below_few))))
      (λ near. clear_near row (omega arith) ∙ leb-sub (31 * length groups) row below)

-- ---- the loop over words from the end

clear_none : (row : ℕ) → clear_from row [] ≡ true
unfolding clear_from
clear_none row = rw drop-nil refl

clear_front : (row : ℕ) (front : List ℕ) (count : ℕ) → clear_from row (front ++ replicate count 0) ≡ clear_from row front
unfolding clear_from
clear_front row front count =
    rw (rows_of-append front (replicate count 0), rows_of-uniform 0 count (omega arith)) (zeros-behind (rows_of front) row (31 * count))

-- the words from place `at` on are all zero: the rows in front decide
pub record ZerosFrom (list : List ℕ) (row end at : ℕ) : Type 0 where
  pub within : at ≤ length list
  pub covered : end ≡ length (decode (take at list))
  pub few : end ≤ length (decode list)
  pub same : clear_from row (decode list) ≡ clear_from row (decode (take at list))

pub ends : (list : List ℕ) (row end at : ℕ) → ZerosFrom list row end at → at ≡ 0 → true ≡ clear_from row (decode list)
ends list row end at zeros none = sym (zeros.same ∙ rw none (clear_none row))

-- the word that is read after `passed` others, from the end
abbrev FromEnd : List ℕ → ℕ → ℕ → Type 0
FromEnd list passed word = (passed < length list) × (word ≡ get_or list (length list - (passed + 1)) 0)

module _ (list : List ℕ) (row end passed word : ℕ) (zeros : ZerosFrom list row end (length list - passed)) (here : FromEnd list passed word) where
  at : ℕ
  at = length list - (passed + 1)

  one_more : length list - passed ≡ at + 1
  unfolding at
  one_more = omega (arith, here.0)

  inside : at < length list
  unfolding at
  inside = omega (arith, here.0)

  same_word : run_at list at ≡ run_of word
  unfolding at
  same_word = ap run_of (sym here.1)

  last_word : decode (take (length list - passed) list) ≡ decode (take at list) ++ replicate (span (run_of word)) (group_in (run_of word))
  last_word = rw (one_more, ← same_word) (decode_upto list at inside)

  last-span : end ≡ length (decode (take at list)) + span (run_of word)
  last-span = zeros.covered ∙ rw (one_more, ← same_word) (length_upto list at inside)

  pub last_fits : span (run_of word) ≤ end
  last_fits = omega (arith, last-span)

  -- a word of zeros is passed
  pub passes : group_in (run_of word) ≡ 0 → ZerosFrom list row (end - span (run_of word)) (length list - (passed + 1))
  unfolding at
  passes none =
      record {
        within = omega arith;
        covered = omega (arith, last-span);
        few = omega (arith, zeros.few);
        same = zeros.same ∙ rw (last_word, none) (clear_front row (decode (take at list)) (span (run_of word)));
      }

  -- any other word decides
  pub decides : Filled list → (group_in (run_of word) ≡ 0 → ⊥)
      → leb (31 * end) (row + count_trailing_zeros 32 (group_in (run_of word))) ≡ clear_from row (decode list)
  decides filled set =
      let front = decode (take at list) in
      let group = group_in (run_of word) in
      let last : last_of (decode (take (length list - passed) list)) ≡ group
      = rw last_word (last_repeated front (span (run_of word)) group (rw (← same_word) (filled at inside))) in
      let small : group < 0x80000000 = rw (← same_word) (word_small list at) in
      sym (zeros.same ∙ rw (← last, zeros.covered) (clear_last row (decode (take (length list - passed) list)) (λ e. set (sym last ∙ e)) (rw last small)))

-- ---- the words of a list, as the iterator from its end gives them

pub read_back : (list : List ℕ) (begun now later : Rev (Iter ℕ)) (words : List (Bor ℕ)) (next : Option (Bor ℕ)) (word : Bor ℕ)
    → iter_rest (rev_source begun) ≡ list → Yields (rev_steps iter_steps_back) begun words now → next ≡ Some word → rev_steps iter_steps_back now next later
    → FromEnd list (length words) word.now
read_back list begun now later words next word all given some turn =
    let t = YieldsList-turn (YieldsList-from_rev_slice list all) words now given next later word some turn in
    let inside : length words < length list = omega (arith, t.0, length-reverse list) in (
      inside,
      t.1
          ∙ get_or-reverse list (length words) word.now inside
          ∙ get_or_default list (length list - 1 - length words) word.now 0 (omega arith)
          ∙ ap (λ (i : ℕ). get_or list i 0) (omega arith),
    )

pub read_all : (list : List ℕ) (begun now later : Rev (Iter ℕ)) (words : List (Bor ℕ)) (next : Option (Bor ℕ))
    → iter_rest (rev_source begun) ≡ list → Yields (rev_steps iter_steps_back) begun words now → next ≡ None → rev_steps iter_steps_back now next later
    → length list - length words ≡ 0
read_all list begun now later words next all given none turn =
    let e = YieldsList-end (YieldsList-from_rev_slice list all) words now given next later none turn in
    omega (arith, e.1, length-reverse list)
