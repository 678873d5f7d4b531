-- The invariant of the pass over a list: what its bits and its sum say of the words read, and at its end of the list. Assumes nothing.
use Rattle.std.proofs.Common.{◌≡◌, ℕ, zero, suc, ◌+◌, ◌-◌, ◌%◌, ◌<◌, ◌≤◌, Bool, true, false, ◌&&◌, eqb, List, ◌∷◌, ◌++◌, map, length, get_or, take, drop, sym, refl, ap, ◌∙◌, add-zero, add-one, arith, length-append, length-drop, get_or-drop, take_all, ne_eqb, eqb-true}
use Rattle.std.proofs.lemmas.List.{get_or_append_left, drop-drop, drop_at}
use mathlib.Core.Bool.{and-eq-true_iff}
use lib.Bits.{bit_or, or_add_and, and_le_l, and_le_r, or_lt, or_zero_r}
use Rattle.words.specs.Words.{all_ones, run_of, span, decode, no_fill, keeps_form, bit_after, well_formed}
use Rattle.list_check.specs.Inner.{Mixed, AllMixed, PassedTo}
use Rattle.words.proofs.Forms.{run_at, bit_past, length_split, form_split, length_from, length_upto, form_upto, bit_upto}
use Rattle.words.proofs.word.Reading.{reads_literal}
use Rattle.list_check.proofs.check.Excess.{Tells}

-- the word in front of a place after the first
pub one-before : (list : List ℕ) (i : ℕ) → (i ≡ 0 → ⊥) → get_or list (i - 1) 0 ≡ get_or (0 ∷ list) i 0
one-before list zero h = absurd (h refl)
one-before list (suc i) h = let e : suc i - 1 ≡ i = omega arith in rw e refl

-- the bit before place i is that of the word in front of it, with 0 in front of the first
bit-before : (list : List ℕ) (i : ℕ) → i ≤ length list → bit_past no_fill (map run_of (take i list)) ≡ bit_after (run_of (get_or (0 ∷ list) i 0))
unfolding run_of
bit-before list zero h = refl
bit-before list (suc i) h = rw add-one at (bit_upto list i (omega arith) no_fill)

pub begin : (list : List ℕ) → PassedTo list 0 0 0
begin list =
    record {
      within = omega arith;
      narrow = omega arith;
      passed = λ h. record { form = refl; counts = refl; room = omega arith };
      passes = λ e h. omega arith;
    }

module _ {list : List ℕ} {gathered covered i : ℕ} (b : PassedTo list gathered covered i) where
  module _ (few : length list ≤ 4096) (h : i < length list) (before excess : ℕ) (p : before ≡ get_or (0 ∷ list) i 0)
      (tells : Tells (keeps_form (bit_after (run_of before)) (run_at list i)) (span (run_at list i)) excess) where
    -- whether the words up to this one keep the form
    form_here : well_formed no_fill (map run_of (take (i + 1) list))
        ≡ (well_formed no_fill (map run_of (take i list)) && keeps_form (bit_after (run_of before)) (run_at list i))
    form_here = form_upto list i h no_fill ∙ rw (p, bit-before list i b.within) refl

    -- one word more
    pub next_word : PassedTo list (bit_or gathered excess) ((covered + excess) % 0x100000000) (i + 1)
    next_word =
        record {
          within = omega arith;
          narrow = omega arith;
          passed = λ small.
              let behind = b.passed (omega (arith, or_add_and gathered excess, and_le_r gathered excess)) in
              let little : excess < 0x8000 = omega (arith, or_add_and gathered excess, and_le_l gathered excess) in
              let keeps = tells.1 little in
              let exact = tells.0 keeps in
              record {
                form = form_here ∙ rw (behind.form, keeps) refl;
                counts = omega (arith, behind.counts, behind.room, length_upto list i h);
                room = omega (arith, behind.room);
              };
          passes = λ formed short.
              let front = ((and-eq-true_iff (well_formed no_fill (map run_of (take (i + 1) list))) _).0 (sym (form_split list (i + 1) no_fill) ∙ formed)).0 in
              let keeps = ((and-eq-true_iff (well_formed no_fill (map run_of (take i list))) _).0 (sym form_here ∙ front)).1 in
              or_lt 15 gathered excess (b.passes formed short) (omega (arith, tells.0 keeps, length_split list i, length_from list i h));
        }

  module _ (h : length list ≤ i) (groups : ℕ) where
    -- a word covers too many groups, or breaks the form
    pub not_kept : groups ≤ 4096 → 0x8000 ≤ gathered → false ≡ (well_formed no_fill (map run_of list) && eqb (length (decode list)) groups)
    not_kept few many = go (well_formed no_fill (map run_of list) && eqb (length (decode list)) groups) refl
      where
        go : (t : Bool) → (well_formed no_fill (map run_of list) && eqb (length (decode list)) groups) ≡ t → false ≡ t
        go false e = refl
        go true e =
            let s = (and-eq-true_iff (well_formed no_fill (map run_of list)) _).0 e in
            absurd (omega (arith, b.passes s.0 (omega (arith, eqb-true (length (decode list)) groups s.1))))

    -- no word does: the sum decides
    pub kept : gathered < 0x8000 → eqb (covered + length list) groups ≡ (well_formed no_fill (map run_of list) && eqb (length (decode list)) groups)
    kept small =
        let all = b.passed small in
        let whole : take i list ≡ list = take_all i list h in
        let formed = rw whole at all.form in
        let long : covered + length list ≡ length (decode list) = omega (arith, b.within, rw whole at all.counts) in
        rw (formed, long) refl

-- no word is left
pub at_end : {list : List ℕ} {gathered covered i : ℕ} → PassedTo list gathered covered i → length list ≤ i → PassedTo list gathered covered (length list)
at_end {list} {gathered} {covered} {i} b h = let same : i ≡ length list = omega (arith, b.within) in rw same at b

-- ---- words that are mixed

-- such a word keeps the form after any word, and covers its group alone
mixed_tells : (bit word : ℕ) → Mixed word → Tells (keeps_form bit (run_of word)) (span (run_of word)) 0
mixed_tells bit word mixed =
    rw (
      reads_literal word (omega (arith, mixed.1)),
      ne_eqb word 0 (λ e. omega (arith, mixed.0)),
      ne_eqb word all_ones (λ e. omega (arith, mixed.1)),
    )
    (λ e. refl, λ h. refl)

-- they add nothing to what the words before have shown
mixed_more : {list : List ℕ} {gathered covered : ℕ} (i : ℕ) → PassedTo list gathered covered i → length list ≤ 4096 → (count : ℕ) → i + count ≤ length list
    → ((k : ℕ) → k < count → Mixed (get_or list (i + k) 0)) → PassedTo list gathered covered (i + count)
mixed_more i b few zero h mixed = rw add-zero b
mixed_more {list} {gathered} {covered} i b few (suc count) h mixed =
    let behind = mixed_more i b few count (omega arith) (λ k less. mixed k (omega arith)) in
    let word = get_or list (i + count) 0 in
    let here = next_word behind few (omega arith) (get_or (0 ∷ list) (i + count) 0) 0 refl (mixed_tells _ word (mixed count (omega arith))) in
    let same : (covered + 0) % 0x100000000 ≡ covered = omega (arith, behind.narrow) in
    let place : i + count + 1 ≡ i + suc count = omega arith in
    rw (or_zero_r gathered, same, place) at here

module _ (list : List ℕ) (i : ℕ) (part rest : List ℕ) (e : drop i list ≡ part ++ rest) where
  -- what is left of a list begins with a part: it ends within the list
  part_fits : i ≤ length list → i + length part ≤ length list
  part_fits within = omega (arith, length-drop i list, length-append part rest, ap length e)

  -- what is left of the list behind the part
  pub behind_part : rest ≡ drop (i + length part) list
  behind_part = sym (sym (drop-drop (length part) i list) ∙ ap (drop (length part)) e ∙ drop_at part rest (length part) refl)

  -- THEOREM: a part that is mixed adds nothing
  pub mixed_part : {gathered covered : ℕ} → PassedTo list gathered covered i → length list ≤ 4096 → AllMixed part
      → PassedTo list gathered covered (i + length part)
  mixed_part b few all =
      mixed_more i b few (length part) (part_fits b.within)
      (λ k less. rw (sym (get_or-drop i list k 0) ∙ ap (λ (left : List ℕ). get_or left k 0) e ∙ get_or_append_left part rest 0 k less) (all k less))
