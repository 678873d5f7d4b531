-- The list of one row alone: its groups, its rows and its words; and the list of no row. Assumes nothing.
use mathlib.Core.Path.{◌≡◌, refl, ◌∙◌, ap, sym}
use mathlib.Core.Bool.{Bool, true, false}
use mathlib.Core.List.{List, [], ◌∷◌, ◌++◌, append-nil}
use Prim.Native.Nat.{ℕ, suc, zero, ◌+◌, ◌-◌, ◌/◌, ◌%◌, ◌^◌, ◌<◌, ◌≤◌}
use native.Mathlib.Omega.{arith}
use native.Mathlib.Nat.{zero-div}
use lib.Dec.{eqb}
use lib.ListN.{length, get_or, take, replicate, length-append, length-replicate}
use lib.Pow.{pow_pos, pow_mono}
use lib.Seq.{sets, get_or_at, take_at}
use borrow.Author.Tests.{eqb-true, eqb-false}
use Rattle.groups.specs.Rows.{row_at}
use Rattle.words.specs.Words.{Run.fill, all_ones, word_of, decode, encode}
use Rattle.words.specs.Inner.{uniform, no_run, last_words, Fits, Follows, Closes}
use Rattle.words.specs.declared.writer.Pending.{Pending}
use Rattle.words.specs.declared.writer.ListWriter.{ListWriter}
use Rattle.groups.proofs.Group.{power_bit, power_other}
use Rattle.groups.proofs.Groups.{get_or-zeros}
use Rattle.words.proofs.Round.{Groups, decode-encode}
use Rattle.words.proofs.Runs.{ends_run, last-run, literal_word}
use Rattle.words.proofs.Writing.{Writing, begins, push_fits, push_on, closes, ends}
use Rattle.lists.specs.Inner.{Covers, one_row, Packs}
use Rattle.lists.specs.declared.one_row.Short.{Short}
use Rattle.lists.proofs.Covering.{encode_covers}

-- THEOREM: the list of no row is one word
pub encode-zeros : (groups : ℕ) → 0 < groups → encode (replicate groups 0) ≡ word_of (fill 0 groups) ∷ []
encode-zeros groups h = ap encode (sym (append-nil (replicate groups 0))) ∙ last-run 0 groups (omega arith) h

-- ---- one group among zeros

abbrev lone : ℕ → ℕ → ℕ → List ℕ
lone before group behind = uniform 0 before ++ group ∷ uniform 0 behind

get_or-lone_other : (before group behind i : ℕ) → (i ≡ before → ⊥) → get_or (lone before group behind) i 0 ≡ 0
get_or-lone_other zero group behind zero e = absurd (e refl)
get_or-lone_other zero group behind (suc i) e = get_or-zeros behind i
get_or-lone_other (suc before) group behind zero e = refl
get_or-lone_other (suc before) group behind (suc i) e = get_or-lone_other before group behind i (λ p. e (ap suc p))

few-zeros : (count : ℕ) → length (encode (uniform 0 count)) ≤ 1
few-zeros zero = omega arith
few-zeros (suc count) = rw (encode-zeros (suc count) (omega arith)) (omega arith)

few-lone : (before group behind : ℕ) → (group ≡ 0 → ⊥) → (group ≡ all_ones → ⊥) → length (encode (lone before group behind)) ≤ 3
few-lone zero group behind p q = rw (literal_word group (uniform 0 behind) p q) (omega (arith, few-zeros behind))
few-lone (suc before) group behind p q =
    rw (ends_run 0 (suc before) group (uniform 0 behind) (omega arith) (omega arith) p, literal_word group (uniform 0 behind) p q)
    (omega (arith, few-zeros behind))

-- ---- the group of the row

module _ (groups row : ℕ) where
  mask_some : 2 ^ (30 - row % 31) ≡ 0 → ⊥
  mask_some e = omega (arith, pow_pos (30 - row % 31))

  mask_below : 2 ^ (30 - row % 31) ≤ 2 ^ 30
  mask_below = pow_mono {j = 30} (omega arith)

  get_or-one_row : get_or (one_row groups row) (row / 31) 0 ≡ 2 ^ (30 - row % 31)
  unfolding one_row
  get_or-one_row = get_or_at (replicate (row / 31) 0) _ _ 0 (row / 31) (length-replicate (row / 31) 0)

  get_or-one_row_other : (i : ℕ) → (i ≡ row / 31 → ⊥) → get_or (one_row groups row) i 0 ≡ 0
  unfolding one_row
  get_or-one_row_other i = get_or-lone_other (row / 31) (2 ^ (30 - row % 31)) (groups - row / 31 - 1) i

  pub length-one_row : row / 31 < groups → length (one_row groups row) ≡ groups
  unfolding one_row
  length-one_row h = simp (length-append, length-replicate) (omega arith)

  one_row-lt : Groups (one_row groups row)
  one_row-lt i = go (eqb i (row / 31)) refl
    where
      go : (t : Bool) → eqb i (row / 31) ≡ t → get_or (one_row groups row) i 0 < 0x80000000
      go true e = rw (eqb-true i (row / 31) e, get_or-one_row) (omega (arith, mask_below))
      go false e = rw (get_or-one_row_other i (eqb-false i (row / 31) e)) (omega arith)

  -- THEOREM: the row is 1, and every other row is 0
  pub row_at-one_row : row_at (one_row groups row) row ≡ 1
  row_at-one_row = rw get_or-one_row (power_bit (30 - row % 31))

  pub row_at-one_row_other : (other : ℕ) → (other ≡ row → ⊥) → row_at (one_row groups row) other ≡ 0
  row_at-one_row_other other e = go (eqb (other / 31) (row / 31)) refl
    where
      go : (t : Bool) → eqb (other / 31) (row / 31) ≡ t → row_at (one_row groups row) other ≡ 0
      go true p =
          let same : other / 31 ≡ row / 31 = eqb-true (other / 31) (row / 31) p in
          rw (same, get_or-one_row) (power_other (30 - row % 31) (30 - other % 31) (λ q. e (omega arith)))
      go false p = rw (get_or-one_row_other (other / 31) (eqb-false (other / 31) (row / 31) p), zero-div) refl

  -- THEOREM: the list has at most three words
  pub few-one_row : length (encode (one_row groups row)) ≤ 3
  unfolding one_row
  few-one_row = few-lone (row / 31) (2 ^ (30 - row % 31)) (groups - row / 31 - 1) mask_some (λ e. omega (arith, mask_below))

-- ---- the groups that are taken in

module _ (groups row : ℕ) (words : List ℕ) (room : length (encode (one_row groups row)) ≤ length words) (inside : row / 31 < groups) (limit : groups ≤ 4096)
    (none : ListWriter) (b : (none.out.now ≡ words) × (none.written ≡ 0) × (none.pending ≡ no_run)) where
  begun : Writing (one_row groups row) (one_row groups row) words none.out.now none.written none.pending
  begun = rw (b.0, b.1, b.2) (begins (one_row groups row) words)

  no_count : none.pending.count ≡ 0
  no_count = ap (λ (pending : Pending). pending.count) b.2

  -- the zeros before the row come first
  pub before_fit : Fits (uniform 0 (row / 31)) none
  unfolding one_row
  before_fit = push_fits begun room (uniform 0 (row / 31)) _ refl (omega (arith, no_count, length-replicate {A = ℕ} (row / 31) 0))

  -- then its group
  module _ {before : ListWriter} (f : Follows (uniform 0 (row / 31)) none before) (group : ℕ) (mask : group ≡ 2 ^ (30 - row % 31)) where
    before_on : Writing (one_row groups row) (group ∷ uniform 0 (groups - row / 31 - 1)) words before.out.now before.written before.pending
    unfolding one_row
    before_on = rw mask (push_on begun room (uniform 0 (row / 31)) _ refl f)

    few_before : before.pending.count ≤ row / 31
    few_before = omega (arith, no_count, f.grows, length-replicate {A = ℕ} (row / 31) 0)

    pub group_fits : Fits (group ∷ []) before
    group_fits = push_fits before_on room (group ∷ []) _ refl (omega (arith, few_before))

    -- and then the zeros after it
    module _ {with-group : ListWriter} (g : Follows (group ∷ []) before with-group) where
      group_on : Writing (one_row groups row) (uniform 0 (groups - row / 31 - 1)) words with-group.out.now with-group.written with-group.pending
      group_on = push_on before_on room (group ∷ []) _ refl g

      pub after_fit : Fits (uniform 0 (groups - row / 31 - 1)) with-group
      after_fit =
          push_fits group_on room (uniform 0 (groups - row / 31 - 1)) [] (sym (append-nil _))
          (omega (arith, few_before, g.grows, length-replicate {A = ℕ} (groups - row / 31 - 1) 0))

      module _ {all : ListWriter} (h : Follows (uniform 0 (groups - row / 31 - 1)) with-group all) where
        all_on : Writing (one_row groups row) [] words all.out.now all.written all.pending
        all_on = push_on group_on room (uniform 0 (groups - row / 31 - 1)) [] (sym (append-nil _)) h

        pub all_close : Closes all
        all_close = closes all_on room refl (omega (arith, few_before, g.grows, h.grows, length-replicate {A = ℕ} (groups - row / 31 - 1) 0))

        pub packs : {out : List ℕ} → sets all.out.now all.written (last_words all.pending) ≡ out
            → Packs (one_row groups row) (record { words = out; count = all.written + length (last_words all.pending) })
        packs e =
            let end = ends all_on room refl in
            record {
              few = omega (arith, end.0, few-one_row groups row);
              list = rw (← e, end.1) (take_at (encode (one_row groups row)) _ _ (sym end.0));
            }

-- ---- reading it back

module _ (groups row : ℕ) (within : row / 31 < groups) (few : groups < 0x40000000) (short : Short) (p : Packs (one_row groups row) short) where
  -- THEOREM: what packs one row has its groups, and can be combined with every list of as many
  pub decode-one_row : decode (take short.count short.words) ≡ one_row groups row
  decode-one_row = ap decode p.list ∙ decode-encode (one_row groups row) (one_row-lt groups row) (rw (length-one_row groups row within) few)

  pub one_row_covers : Covers groups (take short.count short.words)
  one_row_covers = rw p.list (encode_covers groups (one_row groups row) (one_row-lt groups row) (length-one_row groups row within) few)
