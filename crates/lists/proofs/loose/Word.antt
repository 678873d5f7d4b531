-- A word turned over in loose groups: a fill of ones as a part of them, any other word as one group or none. Assumes nothing.
use mathlib.Core.Path.{◌≡◌, refl, ◌∙◌, ap, sym}
use mathlib.Core.List.{List, [], ◌∷◌}
use mathlib.Core.Logic.{◌⊎◌, inl, inr, ⊎_elim}
use Prim.Native.Nat.{ℕ, ◌+◌, ◌-◌, ◌/◌, ◌%◌, ◌<◌, ◌≤◌}
use native.Mathlib.Omega.{arith}
use lib.Bits.{bit_xor, xor_zero_r}
use lib.ListN.{length, get_or, take, drop, set, replicate}
use lib.Seq.{drop-cons, set_split, set-get_or}
use borrow.Rule.Slice.PartMut.{mid_of, put_mid, put_same, mid_len}
use Rattle.groups.specs.Inner.{Groups}
use Rattle.words.specs.Words.{run_of, span, group_in}
use Rattle.words.proofs.Round.{by_word}
use Rattle.groups.proofs.Groups.{groups-take, groups-drop}
use Rattle.lists.specs.Combine.{exclusive, on_group, combined}
use Rattle.lists.specs.Inner.{turned_from}
use Rattle.lists.proofs.Covering.{word_small}
use Rattle.lists.proofs.Operations.{xor-on_group}
use Rattle.lists.proofs.Exclusive.{xor-zeros}

-- the group of a word
pub group_small : (word : ℕ) → group_in (run_of word) < 0x80000000
group_small word = word_small (word ∷ []) 0

-- a word that is no fill of ones covers one group, or turns nothing over
one-or-zeros : (word : ℕ) → word < 0xC0000000 → (span (run_of word) ≡ 1) ⊎ (group_in (run_of word) ≡ 0)
one-or-zeros word h =
    by_word (λ run. (span run ≡ 1) ⊎ (group_in run ≡ 0)) word (λ low. inl refl)
    (λ high. let zeros : word / 0x40000000 % 2 ≡ 0 = omega arith in inr (rw zeros refl))

module _ (groups : List ℕ) (at count : ℕ) (small : Groups groups) (fits : at + count ≤ length groups) where
  part_long : length (take count (drop at groups)) ≡ count
  part_long =
      let size : at + count - at ≡ count = omega arith in
      rw size at (mid_len at (at + count) groups fits)

  -- the part that the code lends
  module _ (end : ℕ) (e : end ≡ at + count) where
    pub part_small : Groups (mid_of at (end - at) groups)
    part_small = groups-take (end - at) (drop at groups) (groups-drop at groups small)

    pub part_turned : (group : ℕ)
        → put_mid at (end - at) groups (combined exclusive (mid_of at (end - at) groups) (replicate (length (mid_of at (end - at) groups)) group))
        ≡ turned_from groups at count group
    part_turned group =
        let size : end - at ≡ count = omega (arith, e) in
        rw (size, part_long) refl

  -- the group at the place
  turned-one : (group : ℕ) → at < length groups → count ≡ 1 → set groups at (on_group exclusive (get_or groups at 0) group) ≡ turned_from groups at count group
  turned-one group inside one =
      set_split groups at (on_group exclusive (get_or groups at 0) group) inside ∙ rw (one, drop-cons groups at 0 inside) refl

  turned_none : (group : ℕ) → group ≡ 0 → groups ≡ turned_from groups at count group
  turned_none group zeros =
      rw (zeros, xor-zeros count (take count (drop at groups)) (groups-take count (drop at groups) (groups-drop at groups small)) part_long)
      (sym (put_same at count groups))

-- a word that is no fill of ones: the group at its place, where there is one, is turned over
module _ (groups : List ℕ) (at word : ℕ) (small : Groups groups) (fits : at + span (run_of word) ≤ length groups) (low : word < 0xC0000000) where
  pub one-turned : at < length groups
      → set groups at (bit_xor (get_or groups at 0) (group_in (run_of word))) ≡ turned_from groups at (span (run_of word)) (group_in (run_of word))
  one-turned inside =
      let group = group_in (run_of word) in
      ⊎_elim
      (λ one. ap (set groups at) (xor-on_group (get_or groups at 0) group (small at) (group_small word))
      ∙ turned-one groups at (span (run_of word)) small fits group inside one)
      (λ zeros. ap (set groups at) (ap (bit_xor (get_or groups at 0)) zeros ∙ xor_zero_r (get_or groups at 0))
      ∙ set-get_or groups at 0
      ∙ turned_none groups at (span (run_of word)) small fits group zeros)
      (one-or-zeros word low)

  pub none-turned : length groups ≤ at → groups ≡ turned_from groups at (span (run_of word)) (group_in (run_of word))
  none-turned behind =
      ⊎_elim (λ one. absurd (omega (arith, one))) (turned_none groups at (span (run_of word)) small fits (group_in (run_of word))) (one-or-zeros word low)
