-- The exits of the whole check after its pass: a list of too many words, and the last group. Assumes nothing.
use Rattle.std.proofs.Common.{◌≡◌, ℕ, ◌+◌, ◌-◌, ◌*◌, ◌%◌, ◌^◌, ◌<◌, ◌≤◌, Bool, true, false, cond, ◌&&◌, eqb, List, [], ◌∷◌, map, length, take, sym, refl, ap, ◌∙◌, arith, take_all, ne_eqb, eqb-true}
use mathlib.Core.Bool.{and-eq-true_iff}
use lib.ListN.{length-map}
use Rattle.groups.specs.Rows.{groups_for}
use Rattle.words.specs.Words.{Run, run_of, span, group_in, groups_in, decode, no_fill, keeps_form, bit_after, well_formed}
use Rattle.list_check.specs.Inner.{accepted, rejected, check_of}
use Rattle.words.proofs.Forms.{run_at, bit_past, keeps_covers, keeps_first, length-groups, form_upto, decode_upto}
use Rattle.groups.proofs.Tail.{last_of, last_repeated, clear_tail}
use Rattle.list_check.proofs.check.Verdict.{not_formed, as_clear}

-- ---- a word a group at most

runs_few : (before : ℕ) (runs : List Run) → well_formed before runs ≡ true → length runs ≤ length (groups_in runs)
runs_few before [] e = omega arith
runs_few before (run ∷ runs) e =
    let s = keeps_first before run runs e in
    omega (arith, keeps_covers before run s.0, length-groups run runs, runs_few (bit_after run) runs s.1)

-- words that keep the form cover a group each at least
words-few : (list : List ℕ) → well_formed no_fill (map run_of list) ≡ true → length list ≤ length (decode list)
words-few list e = rw length-map at (runs_few no_fill (map run_of list) e)

-- ---- the last group is the last word's

last_word : (list : List ℕ) (i : ℕ) → length list ≡ i + 1 → well_formed no_fill (map run_of list) ≡ true → group_in (run_at list i) ≡ last_of (decode list)
last_word list i e formed =
    let h : i < length list = omega arith in
    let whole : take (i + 1) list ≡ list = take_all (i + 1) list (omega arith) in
    let front = well_formed no_fill (map run_of (take i list)) in
    let past = bit_past no_fill (map run_of (take i list)) in
    let keeps = ((and-eq-true_iff front (keeps_form past (run_at list i))).0 (sym (form_upto list i h no_fill) ∙ rw whole formed)).1 in
    sym (ap last_of (rw whole at (decode_upto list i h)) ∙ last_repeated (decode (take i list)) (span (run_at list i)) (group_in (run_at list i)) (keeps_covers past (run_at list i) keeps))

last_of_lem : (list : List ℕ) → well_formed no_fill (map run_of list) ≡ true → group_in (run_at list (length list - 1)) ≡ last_of (decode list)
unfolding run_of
last_of_lem [] formed = refl
last_of_lem (word ∷ list) formed = last_word (word ∷ list) (length (word ∷ list) - 1) (omega arith) formed

-- without a word it is 0
pub no_word : (list : List ℕ) → length list ≡ 0 → 0 ≡ group_in (run_at list (length list - 1))
unfolding run_of
no_word [] e = refl
no_word (word ∷ list) e = absurd (omega arith)

-- ---- the exits

module _ (list : List ℕ) (rows : ℕ) where
  pub too_long : groups_for rows < length list → rejected ≡ check_of list rows
  too_long h = go (well_formed no_fill (map run_of list)) refl
    where
      go : (t : Bool) → well_formed no_fill (map run_of list) ≡ t → rejected ≡ check_of list rows
      go true e = not_formed list rows (rw (e, ne_eqb (length (decode list)) (groups_for rows) (λ q. omega (arith, words-few list e))) refl)
      go false e = not_formed list rows (rw e refl)

  -- the list keeps the form and covers M groups: the test of its last group decides
  pub ends : {groups : ℕ} → groups ≡ groups_for rows → well_formed no_fill (map run_of list) && eqb (length (decode list)) groups ≡ true
      → {last : ℕ} → last ≡ group_in (run_at list (length list - 1)) → {clear told : Bool} → clear ≡ eqb (last % 2 ^ (groups * 31 - rows)) 0
      → clear ≡ told → cond told accepted rejected ≡ check_of list rows
  ends {groups} g formed l t side =
      let parts = (and-eq-true_iff (well_formed no_fill (map run_of list)) (eqb (length (decode list)) groups)).0 formed in
      let long = eqb-true (length (decode list)) groups parts.1 in
      let unused : groups * 31 - rows ≡ 31 * length (decode list) - rows = omega arith in
      rw (← side, t, unused, l, last_of_lem list parts.0, ← clear_tail rows (decode list) (omega arith)) (as_clear list rows (rw g at formed))
