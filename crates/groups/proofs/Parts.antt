-- A group in parts: some rows and those after them, and a whole group as four times eight rows. Assumes nothing.
use mathlib.Core.Path.{◌≡◌, refl, ◌∙◌, ap, sym}
use mathlib.Core.Bool.{true}
use mathlib.Core.List.{List, [], ◌∷◌, ◌++◌}
use Prim.Native.Nat.{ℕ, zero, suc, ◌+◌, ◌*◌, ◌-◌, ◌/◌, ◌%◌, ◌^◌, ◌≤◌}
use native.Mathlib.Omega.{arith}
use native.Mathlib.Nat.{zero-add, suc-add, add_assoc, add_comm, zero-mul, add-mul, mul_assoc}
use lib.ListN.{length, take, drop, length-append, length-drop}
use lib.Pow.{pow-add, shr-shr}
use lib.Seq.{length-take-le, take_all, take-take, drop-drop, take-add, take_at, sets, length-sets, sets-eq}
use Rattle.groups.specs.Rows.{are_bits, group_of, bits_of}
use Rattle.groups.proofs.Bits.{are_bits-drop}
use Rattle.groups.proofs.Group.{bit_below, length-bits_of, drop-bits_of, group_of-nil, group_of-lt}

pub joined : (first x y above below : ℕ) → first * (x * y) + (above * y + below) ≡ (first * x + above) * y + below
joined first x y above below = rw (add-mul, mul_assoc, add_assoc) refl

-- the first j rows stand above the k others
group_of_split : (j k : ℕ) (rows : List ℕ) → group_of (j + k) rows ≡ group_of j rows * 2 ^ k + group_of k (drop j rows)
group_of_split zero k rows = rw (zero-add, zero-mul, zero-add) refl
group_of_split (suc j) k [] = rw (suc-add, zero-mul, zero-add) (sym (group_of-nil k))
group_of_split (suc j) k (row ∷ rows) = rw (suc-add, group_of_split j k rows, pow-add) (joined row (2 ^ j) (2 ^ k) (group_of j rows) (group_of k (drop j rows)))

-- the first j bits of a group are those of what stands above the k others
take-bits_of : (j k group : ℕ) → take j (bits_of (j + k) group) ≡ bits_of j (group / 2 ^ k)
take-bits_of zero k group = refl
take-bits_of (suc j) k group = rw (suc-add, shr-shr group k j, add_comm k j, take-bits_of j k group) refl

-- bits above the k lowest do not count among the j lowest
bits_of-mod : (j k group : ℕ) → j ≤ k → bits_of j (group % 2 ^ k) ≡ bits_of j group
bits_of-mod zero k group h = refl
bits_of-mod (suc j) k group h = rw (← bit_below group k j h, bits_of-mod j k group (omega arith)) refl

-- eight bits of a group, from the given row on
eight_bits_of : (at group : ℕ) → at ≤ 23 → take 8 (drop at (bits_of 31 group)) ≡ bits_of 8 (group / 2 ^ (23 - at) % 256)
eight_bits_of at group h =
    let rest : 31 - at ≡ 8 + (23 - at) = omega arith in
    rw (drop-bits_of at 31 group, rest) (take-bits_of 8 (23 - at) group ∙ sym (bits_of-mod 8 8 (group / 2 ^ (23 - at)) (omega arith)))

-- ---- whole groups, eight rows at a time; the last eight begin with a row that the others have too

pub group_of_eights : (rows : List ℕ) → are_bits rows ≡ true
    → ((group_of 8 rows * 256 + group_of 8 (drop 8 rows)) * 256 + group_of 8 (drop 16 rows)) * 128 + group_of 8 (drop 23 rows) % 128 ≡ group_of 31 rows
group_of_eights rows bits =
    let fewer : group_of 15 (drop 16 rows) ≡ group_of 8 (drop 16 rows) * 128 + group_of 7 (drop 24 rows) = simp drop-drop at (group_of_split 8 7 (drop 16 rows)) in
    let few : group_of 23 (drop 8 rows) ≡ group_of 8 (drop 8 rows) * 0x8000 + group_of 15 (drop 16 rows) = simp drop-drop at (group_of_split 8 15 (drop 8 rows)) in
    let all : group_of 31 rows ≡ group_of 8 rows * 0x800000 + group_of 23 (drop 8 rows) = group_of_split 8 23 rows in
    let twice : group_of 8 (drop 23 rows) ≡ group_of 1 (drop 23 rows) * 128 + group_of 7 (drop 24 rows) = simp drop-drop at (group_of_split 1 7 (drop 23 rows)) in
    omega (arith, group_of-lt 7 (drop 24 rows) (are_bits-drop 24 rows bits))

-- the first rows of a group stand in `out`
record Written (group count : ℕ) (out : List ℕ) : Type 0 where
  whole : length out ≡ 31
  front : take count out ≡ take count (bits_of 31 group)

-- eight rows more, of which some may be there
eight_more : (group done at : ℕ) (out : List ℕ) → at ≤ done → at ≤ 23 → Written group done out
    → Written group (at + 8) (sets out at (bits_of 8 (group / 2 ^ (23 - at) % 256)))
eight_more group done at out h k w =
    record {
      whole = length-sets out at (bits_of 8 (group / 2 ^ (23 - at) % 256)) ∙ w.whole;
      front =
          ap (λ (rows : List ℕ). take (at + 8) (sets out at rows)) (sym (eight_bits_of at group k))
          ∙ go (bits_of 31 group) (length-bits_of 31 group) w.whole w.front;
    }
  where
    go : (bits : List ℕ) → length bits ≡ 31 → length out ≡ 31 → take done out ≡ take done bits
        → take (at + 8) (sets out at (take 8 (drop at bits))) ≡ take (at + 8) bits
    go bits l m same =
        let rows = take 8 (drop at bits) in
        let eight : length rows ≡ 8 = length-take-le 8 (drop at bits) (omega (arith, length-drop at bits)) in
        let there : take at out ≡ take at bits = sym (take-take at done out h) ∙ ap (take at) same ∙ take-take at done bits h in
        ap (take (at + 8)) (sets-eq rows out at (omega arith))
        ∙ take_at (take at out ++ rows) (drop (at + length rows) out) (at + 8) (length-append (take at out) rows ∙ rw (eight, length-take-le at out (omega arith)) refl)
        ∙ ap (λ (first : List ℕ). first ++ rows) there
        ∙ sym (take-add at 8 bits)

pub put_eights : (group : ℕ) (out : List ℕ) → length out ≡ 31
    → sets (sets (sets (sets out 0 (bits_of 8 (group / 2 ^ 23 % 256))) 8 (bits_of 8 (group / 2 ^ 15 % 256))) 16 (bits_of 8 (group / 2 ^ 7 % 256))) 23 (bits_of 8 (group / 2 ^ 0 % 256)) ≡ bits_of 31 group
put_eights group out l =
    let none : Written group 0 out = record { whole = l; front = refl } in
    let some = eight_more group 16 16 _ (omega arith) (omega arith) (eight_more group 8 8 _ (omega arith) (omega arith) (eight_more group 0 0 out (omega arith) (omega arith) none)) in
    let all = eight_more group 24 23 _ (omega arith) (omega arith) some in
    sym (take_all 31 _ (omega (arith, all.whole))) ∙ all.front ∙ take_all 31 (bits_of 31 group) (omega (arith, length-bits_of 31 group))
