-- The loop of Pack: the groups of the rows passed are written, those of the others are still to come. Assumes nothing.
use mathlib.Core.Path.{◌≡◌, refl, ap}
use mathlib.Core.Bool.{true}
use mathlib.Core.List.{List, [], ◌∷◌, ◌++◌}
use Prim.Native.Nat.{ℕ, min, ◌+◌, ◌<◌, ◌≤◌}
use native.Mathlib.Omega.{arith}
use native.Mathlib.Nat.{sub-zero}
use lib.ListN.{length, take, drop, length-append}
use lib.Seq.{sets, take-append_seam, drop_at}
use Rattle.groups.specs.Rows.{row_limit, are_bits, group_of, groups_of}
use Rattle.words.specs.Words.{packed}
use Rattle.words.specs.Inner.{last_words, no_run, Fits, Follows, Closes}
use Rattle.words.specs.declared.writer.ListWriter.{ListWriter}
use Rattle.words.proofs.Writing.{Writing, begins, push_fits, push_on, closes, ends}
use Rattle.groups.proofs.Bits.{are_bits-take, are_bits-drop}
use Rattle.groups.proofs.Groups.{groups_of-next, groups_of-past}

-- the rows `left` are still to come
pub record Packing (rows left out₀ : List ℕ) (list : ListWriter) : Type 0 where
  pub bits : are_bits left ≡ true
  pub few : list.pending.count + length left ≤ length rows
  pub writing : Writing (groups_of rows) (groups_of left) out₀ list.out.now list.written list.pending

pub starts : (rows left out : List ℕ) (list : ListWriter) → left ≡ rows → are_bits rows ≡ true
    → (list.out.now ≡ out) × (list.written ≡ 0) × (list.pending ≡ no_run) → Packing rows left out list
starts rows left out list e bits b =
    record {
      bits = rw e bits;
      few = rw (b.2, e) (omega arith);
      writing = rw (b.0, b.1, b.2, e) (begins (groups_of rows) out);
    }

-- the next rows of those that are left, and the rest
pub record Cut (left part rest : List ℕ) : Type 0 where
  pub parts : left ≡ part ++ rest
  pub long : length part ≡ min 31 (length left)
  pub some : 0 < length left

pub cut_of : {left part rest : List ℕ} {size : ℕ} → size ≡ 31 → (left ≡ part ++ rest) × (length part ≡ min size (length left)) × (0 < length left) → Cut left part rest
cut_of thirty c = record { parts = c.0; long = rw thirty at c.1; some = c.2 }

module _ {left part rest : List ℕ} (c : Cut left part rest) where
  front : take (length part) left ≡ part
  front = rw (c.parts, take-append_seam) refl

  back : drop (length part) left ≡ rest
  back = rw c.parts (drop_at part rest (length part) refl)

  next : groups_of left ≡ (group_of 31 part ∷ []) ++ groups_of rest
  next = rw (sub-zero, front, back) at (groups_of-next left 0 (length part) c.some c.long)

  pub part_bits : are_bits left ≡ true → are_bits part ≡ true
  part_bits bits = rw front at (are_bits-take (length part) left bits)

  rest_bits : are_bits left ≡ true → are_bits rest ≡ true
  rest_bits bits = rw back at (are_bits-drop (length part) left bits)

module _ {rows left out₀ : List ℕ} {list : ListWriter} (p : Packing rows left out₀ list) (limit : length rows ≤ row_limit)
    (room : length (packed rows) ≤ length out₀) where
  -- the group of the next rows is taken in
  module _ {part rest : List ℕ} (c : Cut left part rest) (group : ℕ) (g : group ≡ group_of 31 part) where
    group_next : groups_of left ≡ (group ∷ []) ++ groups_of rest
    group_next = rw g (next c)

    pub turn_fits : Fits (group ∷ []) list
    unfolding packed
    turn_fits = push_fits p.writing room (group ∷ []) (groups_of rest) group_next (omega (arith, p.few, limit, c.some))

    pub turns : {further : ListWriter} → Follows (group ∷ []) list further → Packing rows rest out₀ further
    unfolding packed
    turns f =
        record {
          bits = rest_bits c p.bits;
          few = omega (arith, f.grows, p.few, c.long, c.some, length-append part rest, ap length c.parts);
          writing = push_on p.writing room (group ∷ []) (groups_of rest) group_next f;
        }

  -- no row is left
  module _ (done : length left ≡ 0) where
    past : groups_of left ≡ []
    past = groups_of-past left 0 (omega arith)

    pub finish_fits : Closes list
    unfolding packed
    finish_fits = closes p.writing room past (omega (arith, p.few, limit))

    pub finishes : (list.written + length (last_words list.pending) ≡ length (packed rows))
        × (sets list.out.now list.written (last_words list.pending) ≡ packed rows ++ drop (list.written + length (last_words list.pending)) out₀)
    unfolding packed
    finishes = ends p.writing room past
