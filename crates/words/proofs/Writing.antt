-- A canonical list that is written from the left, a step at a time, whatever its groups come from. Assumes nothing.
use mathlib.Core.Path.{◌≡◌, refl, ◌∙◌, ap, sym}
use mathlib.Core.List.{List, [], ◌∷◌, ◌++◌, append_assoc, append-nil}
use Prim.Native.Nat.{ℕ, suc, zero, ◌+◌, ◌-◌, ◌<◌, ◌≤◌}
use native.Mathlib.Omega.{arith}
use lib.ListN.{length, take, drop, length-append, length-take, take-append-drop, drop_of_length-le}
use lib.Seq.{sets, sets-eq, length-sets, length-take-le, drop-drop}
use Rattle.words.specs.Words.{encode}
use Rattle.words.specs.Inner.{after, written, last_words, Takes, Fits, Follows, Closes}
use Rattle.words.specs.declared.writer.Pending.{Pending}
use Rattle.words.specs.declared.writer.Step.{Step}
use Rattle.words.specs.declared.writer.ListWriter.{ListWriter}
use Rattle.groups.proofs.Sets.{sets-append, sets-front, sets_behind, drop_further}

pub written-length : (step : Step) → step.words ≤ 2 → length (written step) ≡ step.words
written-length step h = go step.words h
  where
    go : (n : ℕ) → n ≤ 2 → length (take n (step.first ∷ step.second ∷ [])) ≡ n
    go zero p = refl
    go (suc zero) p = refl
    go (suc (suc zero)) p = refl
    go (suc (suc (suc n))) p = absurd (omega arith)

-- a run that ended is written, and some words are copied behind it
module _ (last words out written made : List ℕ) (at start : ℕ) (room : at + length (last ++ words) ≤ length out)
    (stored : (start ≡ at + length last) × (written ≡ sets out at last)) where
  long_written : start + length words ≤ length written
  long_written = omega (arith, room, length-append last words, stored.0, ap length stored.1, length-sets out at last)

  pub spliced : made ≡ words ++ drop (length words) (take (start + length words - start) (drop start written))
      → (take start written ++ (made ++ drop (start + length words - start) (drop start written)) ≡ sets out at (last ++ words))
      × (start + length words ≡ at + length (last ++ words))
  spliced m =
      let count : start + length words - start ≡ length words = omega arith in
      let none = drop_of_length-le (take (length words) (drop start written)) {i = length words} (omega (arith, length-take (length words) (drop start written))) in
      let whole : made ≡ words = rw (count, none, append-nil) at m in
      let same : sets written start words ≡ sets out at (last ++ words) = rw (stored.0, stored.1, sets-append) refl in (
        rw (whole, count, drop-drop, ← append_assoc) (sym (sets-eq words written start long_written) ∙ same),
        omega (arith, stored.0, length-append last words),
      )

-- of the words of the groups `total` the first `at` are written and a run is pending; the groups `rest` are still to come
pub record Writing (total rest out₀ out : List ℕ) (at : ℕ) (pending : Pending) : Type 0 where
  pub is_bit : pending.bit < 2
  pub within : at ≤ length out
  pub same : length out ≡ length out₀
  pub whole : take at out ++ encode (after pending rest) ≡ encode total
  pub kept : drop at out ≡ drop at out₀

pub begins : (total out : List ℕ) → Writing total total out out 0 (record { bit = 0; count = 0 })
begins total out = record { is_bit = omega arith; within = omega arith; same = refl; whole = refl; kept = refl }

module _ {total rest out₀ out : List ℕ} {at : ℕ} {pending : Pending} (w : Writing total rest out₀ out at pending) (room : length (encode total) ≤ length out₀)
  where
    -- the next words are written, and another run is pending after them
    module _ (more words : List ℕ) (count : ℕ) (next : Pending) (long : length words ≡ count)
        (law : encode (after pending rest) ≡ words ++ encode (after next more)) where
      pub words_fit : at + count ≤ length out
      words_fit = omega (arith, simp (law, length-append) at (ap length w.whole), long, length-take-le at out w.within, w.same)

      pub words_on : next.bit < 2 → Writing total more out₀ (sets out at words) (at + count) next
      words_on is_bit =
          record {
            is_bit = is_bit;
            within = rw length-sets words_fit;
            same = length-sets out at words ∙ w.same;
            whole = rw (sets-front out at count words long words_fit, append_assoc, ← law) w.whole;
            kept = sets_behind out at count words long words_fit ∙ drop_further out out₀ at count w.kept;
          }

    -- a step that takes in the next groups
    module _ (groups more : List ℕ) (step : Step) (e : rest ≡ groups ++ more) (t : Takes pending groups step) where
      step_law : encode (after pending rest) ≡ written step ++ encode (after step.pending more)
      step_law = rw e (t.law more)

      pub step_fits : at + step.words ≤ length out
      step_fits = words_fit more (written step) step.words step.pending (written-length step t.few) step_law

      pub step_on : Writing total more out₀ (sets out at (written step)) (at + step.words) step.pending
      step_on = words_on more (written step) step.words step.pending (written-length step t.few) step_law t.is_bit

    -- no group is left
    module _ (e : rest ≡ []) where
      all_written : take at out ++ last_words pending ≡ encode total
      all_written = rw e at w.whole

      pub last_fits : at + length (last_words pending) ≤ length out
      last_fits = omega (arith, simp length-append at (ap length all_written), length-take-le at out w.within, w.same)

      pub ends : (at + length (last_words pending) ≡ length (encode total))
          × (sets out at (last_words pending) ≡ encode total ++ drop (at + length (last_words pending)) out₀)
      ends =
          let last = last_words pending in
          let end = at + length last in (
            omega (arith, simp length-append at (ap length all_written), length-take-le at out w.within),
            sym (take-append-drop end (sets out at last))
                ∙ rw (sets-front out at (length last) last refl last_fits, sets_behind out at (length last) last refl last_fits, all_written)
                (rw (drop_further out out₀ at (length last) w.kept) refl),
          )

-- ---- the writer of such a list

module _ {total rest out₀ : List ℕ} {list : ListWriter} (w : Writing total rest out₀ list.out.now list.written list.pending)
    (room : length (encode total) ≤ length out₀) where
  -- it takes in the next groups
  module _ (groups more : List ℕ) (e : rest ≡ groups ++ more) where
    pub push_fits : list.pending.count + length groups < 0x40000000 → Fits groups list
    push_fits few =
        let whole = rw e at w.whole in
        record {
          is_bit = w.is_bit;
          few = few;
          behind = more;
          room = omega (arith, simp length-append at (ap length whole), length-take-le list.written list.out.now w.within, w.same);
        }

    pub push_on : {next : ListWriter} → Follows groups list next → Writing total more out₀ next.out.now next.written next.pending
    push_on {next} f =
        rw (f.counts, f.writes) (words_on w room more f.words (length f.words) next.pending refl (rw e (f.law more)) f.is_bit)

  -- no group is left
  pub closes : rest ≡ [] → list.pending.count < 0x40000000 → Closes list
  closes e few = record { is_bit = w.is_bit; few = few; room = last_fits w room e }
