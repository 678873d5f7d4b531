-- Groups to words and back: encode and decode undo each other. Assumes nothing.
use mathlib.Core.Path.{◌≡◌, refl, ◌∙◌, ap, ap₂}
use mathlib.Core.Bool.{Bool, true, false, cond}
use mathlib.Core.List.{List, [], ◌∷◌, ◌++◌, map}
use Prim.Native.Nat.{ℕ, suc, zero, ◌+◌, ◌*◌, ◌/◌, ◌%◌, ◌<◌, ◌≤◌}
use native.Mathlib.Omega.{arith}
use lib.Dec.{ltb}
use lib.ListN.{length, get_or, replicate}
use borrow.Author.Tests.{lt-ltb, ltb-true, ltb-false, ne_eqb}
use Rattle.words.specs.Words.{Run, Run.literal, Run.fill, all_ones, word_of, run_of, groups_in, decode}
use Rattle.words.specs.Words.{add_fill, add_group, runs_of, encode, no_fill, well_formed}
use Rattle.words.proofs.Runs.{add_fills, runs_uniform, fills_apart, by_fill, by_group, groups_runs}
use Rattle.words.proofs.word.Reading.{reads_literal, reads_fill}
use Rattle.words.proofs.Forms.{length-groups, keeps_first, keeps_literal, keeps_fill, form_apart, apart_form}
pub use Rattle.groups.specs.Inner.{Groups}

-- each of a list is a word of 32 bits, as in a slice
abbrev pub Words : List ℕ → Type 0
Words list = (i : ℕ) → get_or list i 0 < 0x100000000

-- ---- a word and its run

-- what holds of a literal and of a fill holds of the run that is read
pub by_word : (Holds : Run → Type 0) (word : ℕ)
    → (word < 0x80000000 → Holds (literal word))
    → (0x80000000 ≤ word → Holds (fill (word / 0x40000000 % 2) (word % 0x40000000)))
    → Holds (run_of word)
unfolding run_of
by_word Holds word low high = go (ltb word 0x80000000) refl
  where
    go : (t : Bool) → ltb word 0x80000000 ≡ t → Holds (cond t (literal word) (fill (word / 0x40000000 % 2) (word % 0x40000000)))
    go true e = low (ltb-true word 0x80000000 e)
    go false e = high (ltb-false word 0x80000000 e)

-- a run that fits the places of a word
abbrev pub Narrow : Run → Type 0
Narrow (literal group) = group < 0x80000000
Narrow (fill bit count) = (bit < 2) × (count < 0x40000000)

pub read_narrow : (word : ℕ) → Narrow (run_of word)
read_narrow word = by_word Narrow word (λ h. h) (λ h. (omega arith, omega arith))

pub read_written : (run : Run) → Narrow run → run_of (word_of run) ≡ run
read_written (literal group) h = reads_literal group h
read_written (fill bit count) h = reads_fill (word_of (fill bit count)) (omega arith) ∙ ap₂ fill (omega arith) (omega arith)

pub written_read : (word : ℕ) → word < 0x100000000 → word_of (run_of word) ≡ word
written_read word h = by_word (λ run. word_of run ≡ word) word (λ k. refl) (λ k. omega arith)

-- ---- words and their runs

abbrev AllNarrow : List Run → Type 0
AllNarrow [] = Unit
AllNarrow (run ∷ runs) = Narrow run × AllNarrow runs

all_read_narrow : (list : List ℕ) → AllNarrow (map run_of list)
all_read_narrow [] = tt
all_read_narrow (word ∷ list) = (read_narrow word, all_read_narrow list)

all_read_written : (runs : List Run) → AllNarrow runs → map run_of (map word_of runs) ≡ runs
all_read_written [] n = refl
all_read_written (run ∷ runs) n = ap₂ ◌∷◌ (read_written run n.0) (all_read_written runs n.1)

all_written_read : (list : List ℕ) → Words list → map word_of (map run_of list) ≡ list
all_written_read [] h = refl
all_written_read (word ∷ list) h = ap₂ ◌∷◌ (written_read word (h 0)) (all_written_read list (λ i. h (suc i)))

-- ---- decode after encode: the runs of fewer than 2 ^ 30 groups fit

narrow_add_fill : (bit : ℕ) (runs : List Run) → bit < 2 → length (groups_in runs) + 1 < 0x40000000 → AllNarrow runs → AllNarrow (add_fill bit runs)
narrow_add_fill bit runs b h n =
    by_fill AllNarrow bit runs
    (λ a. ((b, omega arith), n))
    (λ count rest e. ((b, omega (arith, length-groups (fill bit count) rest, rw e at h)), (rw e at n).1))

runs_narrow : (groups : List ℕ) → Groups groups → length groups < 0x40000000 → AllNarrow (runs_of groups)
runs_narrow [] g h = tt
runs_narrow (group ∷ groups) g h =
    let n : AllNarrow (runs_of groups) = runs_narrow groups (λ i. g (suc i)) (omega arith) in
    by_group AllNarrow group (runs_of groups) (λ bit b e. narrow_add_fill bit (runs_of groups) b (rw groups_runs (omega arith)) n) (λ p q. (g 0, n))

read_encode : (groups : List ℕ) → Groups groups → length groups < 0x40000000 → map run_of (encode groups) ≡ runs_of groups
read_encode groups g h = all_read_written (runs_of groups) (runs_narrow groups g h)

-- THEOREM: decode after encode gives the groups back
pub decode-encode : (groups : List ℕ) → Groups groups → length groups < 0x40000000 → decode (encode groups) ≡ groups
decode-encode groups g h = ap groups_in (read_encode groups g h) ∙ groups_runs groups

-- ---- what encode makes keeps the form

form_add_fill : (bit : ℕ) (runs : List Run) → bit < 2 → well_formed no_fill runs ≡ true → well_formed no_fill (add_fill bit runs) ≡ true
form_add_fill bit runs b e =
    let other = ne_eqb no_fill bit (λ q. omega arith) in
    by_fill (λ l. well_formed no_fill l ≡ true) bit runs
    (λ a. rw other (apart_form no_fill bit runs a e))
    (λ count rest q. rw (other, lt-ltb 0 (suc count) (omega arith)) (keeps_first no_fill (fill bit count) rest (rw q at e)).1)

runs_form : (groups : List ℕ) → well_formed no_fill (runs_of groups) ≡ true
runs_form [] = refl
runs_form (group ∷ groups) =
    by_group (λ l. well_formed no_fill l ≡ true) group (runs_of groups)
    (λ bit b e. form_add_fill bit (runs_of groups) b (runs_form groups))
    (λ p q. rw (ne_eqb group 0 p, ne_eqb group all_ones q) (runs_form groups))

-- THEOREM: what encode makes keeps the form
pub encode_form : (groups : List ℕ) → Groups groups → length groups < 0x40000000 → well_formed no_fill (map run_of (encode groups)) ≡ true
encode_form groups g h = rw (read_encode groups g h) (runs_form groups)

-- ---- encode after decode: runs that keep the form are the runs of their groups

runs_groups : (before : ℕ) (runs : List Run) → AllNarrow runs → well_formed before runs ≡ true → runs_of (groups_in runs) ≡ runs
unfolding add_group
runs_groups before [] n e = refl
runs_groups before (literal group ∷ runs) n e =
    let s = keeps_first before (literal group) runs e in
    let k = keeps_literal before group s.0 in
    rw (ne_eqb group 0 k.0, ne_eqb group all_ones k.1) (ap (◌∷◌ (literal group)) (runs_groups no_fill runs n.1 s.1))
runs_groups before (fill bit zero ∷ runs) n e = absurd (omega (arith, (keeps_fill before bit 0 (keeps_first before (fill bit 0) runs e).0).1))
runs_groups before (fill bit (suc count) ∷ runs) n e =
    let s = keeps_first before (fill bit (suc count)) runs e in
    runs_uniform bit (suc count) (groups_in runs) n.0.0
    ∙ ap (add_fills bit (suc count)) (runs_groups bit runs n.1 s.1)
    ∙ fills_apart bit count runs (form_apart bit runs s.1)

-- THEOREM: encode after decode gives the list back, for a list that keeps the form
pub encode-decode : (list : List ℕ) → Words list → well_formed no_fill (map run_of list) ≡ true → encode (decode list) ≡ list
encode-decode list h e = ap (map word_of) (runs_groups no_fill (map run_of list) (all_read_narrow list) e) ∙ all_written_read list h

-- ---- decode gives groups of 31 bits

groups_narrow : (runs : List Run) → AllNarrow runs → Groups (groups_in runs)
groups_narrow [] n i = omega arith
groups_narrow (literal group ∷ runs) n zero = n.0
groups_narrow (literal group ∷ runs) n (suc i) = groups_narrow runs n.1 i
groups_narrow (fill bit count ∷ runs) n i = within count i (groups_narrow runs n.1)
  where
    within : (count i : ℕ) → Groups (groups_in runs) → get_or (replicate count (bit * all_ones) ++ groups_in runs) i 0 < 0x80000000
    within zero i g = g i
    within (suc count) zero g = omega (arith, n.0.0)
    within (suc count) (suc i) g = within count i g

pub decode-groups : (list : List ℕ) → Groups (decode list)
decode-groups list = groups_narrow (map run_of list) (all_read_narrow list)
