-- Words of a list that keeps the form stand as they are among the words of their groups, if the group that comes after them does. Assumes nothing.
use mathlib.Core.Path.{◌≡◌, refl, ◌∙◌, ap}
use mathlib.Core.Bool.{true}
use mathlib.Core.List.{List, [], ◌∷◌, ◌++◌, map, append_assoc}
use Prim.Native.Nat.{ℕ, suc, zero, ◌*◌, ◌<◌}
use native.Mathlib.Omega.{arith}
use lib.ListN.{length, take, replicate}
use Rattle.words.specs.Words.{Run, Run.literal, Run.fill, all_ones, word_of, run_of, span, group_in, runs_of, decode, encode}
use Rattle.words.specs.Words.{keeps_form, bit_after, well_formed}
use Rattle.words.specs.Inner.{after, last_words}
use Rattle.words.specs.declared.writer.Pending.{Pending}
use Rattle.words.proofs.Runs.{Apart, runs_uniform, fills_apart, group_apart, last-run, literal_word}
use Rattle.words.proofs.Forms.{groups_of_run, run_at, keeps_literal, keeps_fill, keeps_first, keeps_covers}
use Rattle.words.proofs.Round.{Words, Narrow, read_narrow, written_read}

-- ---- a run ends where a group of another kind follows

-- so many times a group that is not of the bit
apart-span : (bit count group : ℕ) (rest : List ℕ) → 0 < count → (group ≡ bit * all_ones → ⊥) → Apart bit (runs_of (replicate count group ++ rest))
apart-span bit zero group rest some differs = absurd (omega arith)
apart-span bit (suc count) group rest some differs = group_apart bit group (runs_of (replicate count group ++ rest)) differs

-- the groups of the first words of a list, and then the next group
abbrev pub up_to : List ℕ → ℕ → List ℕ → List ℕ
up_to list count rest = decode (take count list) ++ group_in (run_at list count) ∷ rest

pub apart_words : (bit before : ℕ) (list : List ℕ) (count : ℕ) (rest : List ℕ) → well_formed before (map run_of list) ≡ true → count < length list
    → (group_in (run_at list 0) ≡ bit * all_ones → ⊥) → Apart bit (runs_of (up_to list count rest))
apart_words bit before [] count rest form h differs = absurd (omega arith)
apart_words bit before (word ∷ list) zero rest form h differs = group_apart bit (group_in (run_of word)) (runs_of rest) differs
apart_words bit before (word ∷ list) (suc count) rest form h differs =
    rw (append_assoc (groups_of_run (run_of word)) (decode (take count list)) (group_in (run_at list count) ∷ rest))
    (apart-span bit (span (run_of word)) (group_in (run_of word)) (up_to list count rest)
    (keeps_covers before (run_of word) (keeps_first before (run_of word) (map run_of list) form).0) differs)

-- the run that is pending is one word
pub ends_pending : (pending : Pending) (rest : List ℕ) → pending.bit < 2 → (0 < pending.count → Apart pending.bit (runs_of rest))
    → encode (after pending rest) ≡ last_words pending ++ encode rest
ends_pending pending rest is_bit apart = go pending.count apart
  where
    go : (count : ℕ) → (0 < count → Apart pending.bit (runs_of rest))
        → encode (replicate count (pending.bit * all_ones) ++ rest) ≡ encode (replicate count (pending.bit * all_ones) ++ []) ++ encode rest
    go zero a = refl
    go (suc count) a =
        rw (last-run pending.bit (suc count) is_bit (omega arith))
        (ap (map word_of) (runs_uniform pending.bit (suc count) rest is_bit ∙ fills_apart pending.bit count (runs_of rest) (a (omega arith))))

-- ---- words as they are

-- the first run of a list that keeps the form, in front of other groups
first_word : (before : ℕ) (run : Run) (rest : List ℕ) → Narrow run → keeps_form before run ≡ true
    → ((bit : ℕ) → bit < 2 → bit_after run ≡ bit → Apart bit (runs_of rest)) → encode (groups_of_run run ++ rest) ≡ word_of run ∷ encode rest
first_word before (literal group) rest narrow keeps apart =
    let k = keeps_literal before group keeps in
    literal_word group rest k.0 k.1
first_word before (fill bit zero) rest narrow keeps apart = absurd (omega (arith, (keeps_fill before bit 0 keeps).1))
first_word before (fill bit (suc count)) rest narrow keeps apart =
    ap (map word_of) (runs_uniform bit (suc count) rest narrow.0 ∙ fills_apart bit count (runs_of rest) (apart bit narrow.0 refl))

-- the run after a fill is of another kind
kinds_differ : (bit : ℕ) (run : Run) → bit < 2 → Narrow run → keeps_form bit run ≡ true → group_in run ≡ bit * all_ones → ⊥
kinds_differ zero (literal group) h narrow keeps e = (keeps_literal 0 group keeps).0 e
kinds_differ (suc zero) (literal group) h narrow keeps e = (keeps_literal 1 group keeps).1 e
kinds_differ (suc (suc bit)) (literal group) h narrow keeps e = omega arith
kinds_differ bit (fill other count) h narrow keeps e = (keeps_fill bit other count keeps).0 (omega arith)

-- THEOREM: the first words of a list that keeps the form are written as they are in front of the next group, whatever comes after it
pub copied_words : (before : ℕ) (list : List ℕ) (count : ℕ) (rest : List ℕ) → Words list → well_formed before (map run_of list) ≡ true → count < length list
    → encode (up_to list count rest) ≡ take count list ++ encode (group_in (run_at list count) ∷ rest)
copied_words before [] count rest words form h = absurd (omega arith)
copied_words before (word ∷ list) zero rest words form h = refl
copied_words before (word ∷ []) (suc count) rest words form h = absurd (omega arith)
copied_words before (word ∷ next ∷ list) (suc count) rest words form h =
    let first = keeps_first before (run_of word) (map run_of (next ∷ list)) form in
    let second = keeps_first (bit_after (run_of word)) (run_of next) (map run_of list) first.1 in
    ap encode (append_assoc (groups_of_run (run_of word)) (decode (take count (next ∷ list))) (group_in (run_at (next ∷ list) count) ∷ rest))
    ∙ first_word before (run_of word) (up_to (next ∷ list) count rest) (read_narrow word) first.0
    (λ bit is_bit e. apart_words bit (bit_after (run_of word)) (next ∷ list) count rest first.1 (omega arith)
    (kinds_differ bit (run_of next) is_bit (read_narrow next) (rw e at second.0)))
    ∙ ap (◌∷◌ (word_of (run_of word))) (copied_words (bit_after (run_of word)) (next ∷ list) count rest (λ i. words (suc i)) first.1 (omega arith))
    ∙ rw (written_read word (words 0)) refl
