-- The groups of a list turned over in loose groups, one word after the other. Assumes nothing.
use mathlib.Core.Path.{◌≡◌, refl, ◌∙◌, ap, sym}
use mathlib.Core.List.{List, ◌++◌, append_assoc}
use Prim.Native.Nat.{ℕ, ◌+◌, ◌<◌, ◌≤◌}
use native.Mathlib.Omega.{arith}
use lib.ListN.{length, take, drop, replicate, length-append, length-drop}
use lib.Seq.{take_all, take_at, drop_at, take-add, drop-drop, length-take-le}
use Rattle.groups.specs.Inner.{Groups}
use Rattle.words.specs.Words.{span, group_in, decode}
use Rattle.words.proofs.Forms.{run_at, decode_upto, length_upto, length_split}
use Rattle.groups.proofs.Groups.{groups-drop, groups-append}
use Rattle.lists.specs.Combine.{exclusive, combined}
use Rattle.lists.specs.Inner.{turned_from}
use Rattle.lists.proofs.Operations.{exclusive_bits}
use Rattle.lists.proofs.Combining.{length-combined, combined-append, combined-lt}

-- the groups of the first i words are turned over, up to place `at`
pub record Turning (list old now : List ℕ) (at i : ℕ) : Type 0 where
  pub within : i ≤ length list
  pub reached : at ≡ length (decode (take i list))
  pub done : now ≡ combined exclusive (take at old) (decode (take i list)) ++ drop at old

pub begins : (list old : List ℕ) → Turning list old old 0 0
begins list old = record { within = omega arith; reached = refl; done = refl }

module _ {list old now : List ℕ} {at i : ℕ} (t : Turning list old now at i) (room : length (decode list) ≤ length old) where
  front_fits : at ≤ length old
  front_fits = omega (arith, t.reached, length_split list i)

  front_same : length (take at old) ≡ length (decode (take i list))
  front_same = length-take-le at old front_fits ∙ t.reached

  front_long : length (combined exclusive (take at old) (decode (take i list))) ≡ at
  front_long = length-combined exclusive (take at old) (decode (take i list)) front_same ∙ length-take-le at old front_fits

  pub now_long : length now ≡ length old
  now_long =
      ap length t.done
      ∙ length-append (combined exclusive (take at old) (decode (take i list))) (drop at old)
      ∙ omega (arith, front_long, length-drop at old, front_fits)

  pub now_small : Groups old → Groups now
  now_small small =
      rw t.done
      (groups-append (combined exclusive (take at old) (decode (take i list))) (drop at old) (combined-lt exclusive exclusive_bits (take at old) (decode (take i list)))
      (groups-drop at old small))

  module _ (h : i < length list) where
    -- how many groups the word covers
    abbrev count : ℕ
    count = span (run_at list i)

    pub word_fits : at + count ≤ length now
    word_fits = omega (arith, now_long, t.reached, length_upto list i h, length_split list (i + 1))

    behind : drop at now ≡ drop at old
    behind = rw t.done (drop_at (combined exclusive (take at old) (decode (take i list))) (drop at old) at front_long)

    pub next_word : (new : List ℕ) → new ≡ turned_from now at count (group_in (run_at list i)) → Turning list old new (at + count) (i + 1)
    next_word new n =
        let group = group_in (run_at list i) in
        let covered = take count (drop at old) in
        let front = combined exclusive (take at old) (decode (take i list)) in
        let made = combined exclusive covered (replicate count group) in
        let upto : decode (take (i + 1) list) ≡ decode (take i list) ++ replicate count group = decode_upto list i h in
        let kept : take at now ≡ front = ap (take at) t.done ∙ take_at front (drop at old) at front_long in
        record {
          within = omega arith;
          reached = omega (arith, t.reached, length_upto list i h);
          done =
              n
              ∙ rw (kept, behind, drop-drop count at old, take-add at count old, upto)
              (sym (append_assoc front made (drop (at + count) old))
              ∙ ap (λ (groups : List ℕ). groups ++ drop (at + count) old)
              (sym (combined-append exclusive (take at old) (decode (take i list)) covered (replicate count group) front_same)));
        }

pub ends : {list old now : List ℕ} {at i : ℕ} → Turning list old now at i → length list ≤ i
    → now ≡ combined exclusive (take (length (decode list)) old) (decode list) ++ drop (length (decode list)) old
ends {list} {old} {now} {at} {i} t h =
    let all : take i list ≡ list = take_all i list h in
    t.done ∙ rw (t.reached, all) refl
