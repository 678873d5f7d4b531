-- A loop that puts one list in the place of another of the same length, element by element; what it puts over loose groups. Assumes nothing.
use mathlib.Core.Path.{◌≡◌, refl, ◌∙◌, ap, sym}
use mathlib.Core.Bool.{◌&&◌}
use mathlib.Core.List.{List, append-nil}
use Prim.Native.Nat.{ℕ, ◌+◌, ◌<◌, ◌≤◌}
use native.Mathlib.Nat.{add-zero, zero-add}
use native.Mathlib.Omega.{arith}
use lib.Bits.{bit_xor, bit_and, bit_or}
use lib.Dec.{eqb}
use lib.ListN.{length, get_or, drop, set, replicate, length-set, length-replicate, get_or-replicate, drop_of_length-le}
use lib.Seq.{paste, paste-zero, drop-paste, get_or-drop}
use Rattle.groups.specs.Rows.{all_zero}
use Rattle.groups.specs.Inner.{Groups}
use Rattle.groups.proofs.Sets.{copies, copied}
use Rattle.groups.proofs.Zeros.{gathered-more, gathered_all}
use Rattle.lists.specs.Combine.{exclusive, combined}
use Rattle.lists.specs.Inner.{shared, either, apart}
use Rattle.lists.proofs.Operations.{xor-on_group, and-on_group, or-on_group}
use Rattle.lists.proofs.Combining.{length-combined, get_or-combined}

-- ---- one list in the place of another

-- the first i places hold the new list, the others are as they were
pub record Replacing (old new now : List ℕ) (i : ℕ) : Type 0 where
  pub long : length new ≡ length old
  pub within : i ≤ length old
  pub same : length now ≡ length old
  pub done : now ≡ paste old 0 new i

pub begins : (old new : List ℕ) → length new ≡ length old → Replacing old new old 0
begins old new e = record { long = e; within = omega arith; same = refl; done = paste-zero old 0 new }

module _ {old new now : List ℕ} {i : ℕ} (r : Replacing old new now i) where
  module _ (h : i < length old) where
    pub unread : get_or now i 0 ≡ get_or old i 0
    unread =
        let behind : drop i now ≡ drop i old
        = ap (drop i) r.done
        ∙ ap (λ (k : ℕ). drop k (paste old 0 new i)) (sym (zero-add i))
        ∙ drop-paste old 0 new i (omega arith) (omega (arith, r.long))
        ∙ ap (λ (k : ℕ). drop k old) (zero-add i) in
        rw add-zero at (sym (get_or-drop i now 0 0)) ∙ rw behind (rw add-zero at (get_or-drop i old 0 0))

    pub replaces : (word : ℕ) → word ≡ get_or new i 0 → Replacing old new (set now i word) (i + 1)
    replaces word e =
        record {
          long = r.long;
          within = omega arith;
          same = length-set now i word ∙ r.same;
          done = rw e (copies new old now i r.done (omega (arith, r.long)) (omega (arith, r.long)));
        }

  pub replaced : length old ≤ i → now ≡ new
  replaced h =
      let whole : i ≡ length new = omega (arith, r.within, r.long) in
      copied new old now i r.done whole ∙ rw (drop_of_length-le old {i = length new} (omega (arith, r.long))) (append-nil new)

-- ---- one group turned over in each

module _ (groups : List ℕ) (group : ℕ) where
  same_count : length groups ≡ length (replicate (length groups) group)
  same_count = sym (length-replicate (length groups) group)

  pub turned-length : length (combined exclusive groups (replicate (length groups) group)) ≡ length groups
  turned-length = length-combined exclusive groups (replicate (length groups) group) same_count

  module _ (small : Groups groups) (narrow : group < 0x80000000) where
    pub turned_at : (i : ℕ) → i < length groups → bit_xor (get_or groups i 0) group ≡ get_or (combined exclusive groups (replicate (length groups) group)) i 0
    turned_at i h =
        xor-on_group (get_or groups i 0) group (small i) narrow
        ∙ sym (get_or-combined exclusive groups (replicate (length groups) group) i same_count h ∙ rw (get_or-replicate (length groups) i group 0 h) refl)

-- ---- rows taken

-- no row is shared where none is so far and none is still to come
abbrev pub Sharing : List ℕ → List ℕ → ℕ → ℕ → Type 0
Sharing taken groups twice i = apart taken groups ≡ (eqb twice 0 && all_zero (drop i (combined shared taken groups)))

pub shares_begin : (taken groups : List ℕ) → Sharing taken groups 0 0
unfolding apart
shares_begin taken groups = refl

module _ (taken groups : List ℕ) (same : length taken ≡ length groups) where
  pub taken_length : length (combined either taken groups) ≡ length taken
  taken_length = length-combined either taken groups same

  module _ (small : Groups taken) (others : Groups groups) (i : ℕ) (h : i < length taken) where
    pub taken_at : bit_or (get_or taken i 0) (get_or groups i 0) ≡ get_or (combined either taken groups) i 0
    taken_at = or-on_group (get_or taken i 0) (get_or groups i 0) (small i) (others i) ∙ sym (get_or-combined either taken groups i same h)

    pub shares_more : (twice : ℕ) → Sharing taken groups twice i → Sharing taken groups (bit_or twice (bit_and (get_or taken i 0) (get_or groups i 0))) (i + 1)
    shares_more twice s =
        let both : bit_and (get_or taken i 0) (get_or groups i 0) ≡ get_or (combined shared taken groups) i 0
        = and-on_group (get_or taken i 0) (get_or groups i 0) (small i) (others i) ∙ sym (get_or-combined shared taken groups i same h) in
        s ∙ rw both (gathered-more (combined shared taken groups) twice i (omega (arith, length-combined shared taken groups same)))

  pub shares_all : (twice i : ℕ) → length taken ≤ i → Sharing taken groups twice i → eqb twice 0 ≡ apart taken groups
  shares_all twice i h s =
      sym (s ∙ gathered_all (combined shared taken groups) twice i (omega (arith, length-combined shared taken groups same)))
