-- Which groups the words of a list cover: the groups of one word, of the words from a place on, and of a canonical list. Assumes nothing.
use mathlib.Core.Path.{◌≡◌, ◌∙◌, ap, sym}
use mathlib.Core.Bool.{true}
use mathlib.Core.List.{List, [], ◌∷◌, map}
use Prim.Native.Nat.{ℕ, zero, suc, ◌+◌, ◌-◌, ◌<◌, ◌≤◌}
use native.Mathlib.Omega.{arith}
use lib.ListN.{length, get_or, take, drop, length-drop, length-replicate, get_or-append, get_or-replicate}
use lib.Seq.{get_or-drop, get_or-append-add}
use Rattle.groups.specs.Rows.{groups_for}
use Rattle.words.specs.Words.{run_of, span, group_in, decode, encode, no_fill, bit_after, well_formed, canonical}
use Rattle.words.proofs.Canonical.{canonical_parts}
use Rattle.words.proofs.Forms.{keeps_covers, keeps_first, groups_of_run, run_at, decode_split, length_split, decode-from}
use Rattle.words.proofs.Round.{Groups, by_word, decode-encode, encode_form}
use Rattle.lists.specs.Inner.{Filled, Covers}

-- ---- the group of one word

pub word_small : (list : List ℕ) (i : ℕ) → group_in (run_at list i) < 0x80000000
word_small list i = by_word (λ run. group_in run < 0x80000000) (get_or list i 0) (λ low. low) (λ high. omega arith)

-- ---- the words from place i on, of which the first covers the groups from `first` on

module _ (list : List ℕ) (i first : ℕ) (e : first ≡ length (decode (take i list))) where
  pub length_rest : length (decode (drop i list)) ≡ length (decode list) - first
  length_rest = omega (arith, length_split list i)

  rest-add : (k : ℕ) → get_or (decode list) (first + k) 0 ≡ get_or (decode (drop i list)) k 0
  rest-add k = rw (decode_split list i, e) (get_or-append-add (decode (take i list)) (decode (drop i list)) k 0)

  -- a group of the whole list is found in them
  pub group_rest : (group : ℕ) → first ≤ group → get_or (decode (drop i list)) (group - first) 0 ≡ get_or (decode list) group 0
  group_rest group h =
      let past : group ≡ first + (group - first) = omega arith in
      sym (ap (λ (g : ℕ). get_or (decode list) g 0) past ∙ rest-add (group - first))

  -- the word at place i stands for each group that it covers
  pub group_at : (k : ℕ) → i < length list → k < span (run_at list i) → get_or (decode list) (first + k) 0 ≡ group_in (run_at list i)
  group_at k h near =
      rest-add k
      ∙ rw (decode-from list i h)
      (get_or-append (groups_of_run (run_at list i)) (decode (drop (i + 1) list)) 0 k (rw length-replicate near)
      ∙ get_or-replicate (span (run_at list i)) k (group_in (run_at list i)) 0 near)

-- ---- no fill counts 0

filled_cons : (word : ℕ) (list : List ℕ) → 0 < span (run_of word) → Filled list → Filled (word ∷ list)
filled_cons word list some filled zero h = some
filled_cons word list some filled (suc i) h = filled i (omega arith)

-- the words from a place on
pub filled_drop : (i : ℕ) (list : List ℕ) → Filled list → Filled (drop i list)
filled_drop i list filled k h = rw get_or-drop (filled (i + k) (omega (arith, length-drop i list)))

-- ---- canonical lists

-- no fill of a list that keeps the form counts 0
pub form_filled : (before : ℕ) (list : List ℕ) → well_formed before (map run_of list) ≡ true → Filled list
form_filled before [] e = λ i h. absurd (omega arith)
form_filled before (word ∷ list) e =
    let kept = keeps_first before (run_of word) (map run_of list) e in
    filled_cons word list (keeps_covers before (run_of word) kept.0) (form_filled (bit_after (run_of word)) list kept.1)

-- THEOREM: a canonical list for some rows covers the groups of so many rows
pub canonical_covers : (rows : ℕ) (list : List ℕ) → canonical rows list ≡ true → Covers (groups_for rows) list
canonical_covers rows list e =
    let parts = canonical_parts rows list e in
    record { filled = form_filled no_fill list parts.form; long = parts.long }

-- the words of some groups cover so many groups
pub encode_covers : (count : ℕ) (groups : List ℕ) → Groups groups → length groups ≡ count → count < 0x40000000 → Covers count (encode groups)
encode_covers count groups g e h =
    record {
      filled = form_filled no_fill (encode groups) (encode_form groups g (omega arith));
      long = ap length (decode-encode groups g (omega arith)) ∙ e;
    }
