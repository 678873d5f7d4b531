-- All groups of a column are put into the blocks, the groups of 31 rows at a time. Assumes nothing.
use Rattle.std.proofs.Common.{◌≡◌, ℕ, ◌+◌, ◌-◌, ◌*◌, ◌<◌, ◌≤◌, min, List, [], ◌∷◌, ◌++◌, length, get_or, take, drop, replicate, sym, refl, ap, ◌∙◌, append_assoc, append-nil, add-one, arith, length-append, length-drop, get_or-drop, take-suc, ext_get_or, drop_at}
use lib.ListN.{length-replicate, get_or-append}
use Rattle.groups.specs.Rows.{group_of, groups_for, groups_of}
use Rattle.groups.proofs.Groups.{groups_of-next, groups_of-past, get_or-zeros}
use Rattle.blocks.specs.Block.{part}
use Rattle.blocks.proofs.Parts.{length_part, get_d_part}
use Rattle.blocks.proofs.SizeLaws.{place-fits}
use Rattle.load_list.specs.Column.{rows_with}
use Rattle.load_list.proofs.listing.Rows.{length-rows_with, rows_with-take, rows_with-drop}
use Rattle.std.proofs.Math.Seq.{take-append_seam, drop-append_seam}
use Rattle.std.proofs.lemmas.List.{drop-drop}
use Rattle.load_column.specs.Inner.{Clear, Placed, Spread}
use Rattle.load_column.proofs.spread.Placing.{same_block}

-- ---- parts

part-more : (words : List ℕ) (at count : ℕ) → at + count < length words → part words at (count + 1) ≡ part words at count ++ (get_or words (at + count) 0 ∷ [])
unfolding part
part-more words at count h = rw (add-one, take-suc (drop at words) count 0 (omega (arith, length-drop at words)), get_or-drop) refl

part_same : (words left : List ℕ) (at count : ℕ) → length left ≡ length words → at + count ≤ length words
    → ((i : ℕ) → i < count → get_or left (at + i) 0 ≡ get_or words (at + i) 0) → part left at count ≡ part words at count
part_same words left at count same fits each =
    let long = length_part left at count (omega arith) in
    ext_get_or 0 (part left at count) (part words at count) (long ∙ sym (length_part words at count fits))
    (λ i h.
    let below : i < count = omega (arith, h, long) in
    get_d_part left at count i 0 below ∙ each i below ∙ sym (get_d_part words at count i 0 below))

-- two places of blocks meet only where they are the same place of the same block
places_differ : (block value other place spot : ℕ) → place < block → spot < block → (place ≡ spot → ⊥) → value * block + place ≡ other * block + spot → ⊥
places_differ block value other place spot p q differ met = differ (omega (arith, rw (same_block block value other place spot p q met) at met))

-- ---- the pass

-- the rows before `at` are passed; their groups stand before `place` of each block, and 0 from there on
pub record Spreading (block values : ℕ) (column words₀ words : List ℕ) (place at : ℕ) : Type 0 where
  pub within : at ≤ length column
  pub started : 2 ≤ place
  pub places : place + groups_for (length column - at) ≡ 2 + groups_for (length column)
  pub same : length words ≡ length words₀
  pub groups : (value : ℕ) → value < values
      → part words (value * block + 2) (place - 2) ++ groups_of (drop at (rows_with value column)) ≡ groups_of (rows_with value column)
  pub clear : (spot : ℕ) → place ≤ spot → spot < block → Clear values block spot words
  pub behind : (i : ℕ) → values * block ≤ i → get_or words i 0 ≡ get_or words₀ i 0

module _ (block values : ℕ) (column words₀ : List ℕ) (clear : (spot : ℕ) → spot < block → Clear values block spot words₀) where
  pub spread_none : Spreading block values column words₀ words₀ 2 0
  unfolding part
  spread_none =
      record {
        within = omega arith;
        started = omega arith;
        places = omega arith;
        same = refl;
        groups = λ value below. refl;
        clear = λ spot past. clear spot;
        behind = λ i past. refl;
      }

module _ {block values : ℕ} {column words₀ words : List ℕ} {place at : ℕ} (room : 2 + groups_for (length column) ≤ block)
    (lent : values * block ≤ length words₀) (p : Spreading block values column words₀ words place at) where
  -- there is a place for one group more
  pub place_inside : at < length column → place < block
  place_inside more = omega (arith, p.places)

  module _ (more : at < length column) (end : ℕ) (e : end ≡ min (at + 31) (length column)) (left : List ℕ)
      (placed : Placed values block place (λ value. group_of 31 (rows_with value (take (end - at) (drop at column)))) words left) where
    next : (value : ℕ) → groups_of (drop at (rows_with value column)) ≡ group_of 31 (rows_with value (take (end - at) (drop at column))) ∷ groups_of (drop end (rows_with value column))
    next value =
        let many = length-rows_with value column in
        groups_of-next (rows_with value column) at end (omega arith) (e ∙ rw many refl) ∙ rw (rows_with-take, rows_with-drop) refl

    pub spread_more : Spreading block values column words₀ left (place + 1) end
    spread_more =
        record {
          within = omega (arith, e);
          started = omega (arith, p.started);
          places = omega (arith, e, p.places);
          same = placed.same ∙ p.same;
          groups = λ value below. grows value below;
          clear = λ spot past inside value below.
              placed.kept (value * block + spot)
              (λ other within. places_differ block value other spot place inside (place_inside more) (omega (arith, past)))
              ∙ p.clear spot (omega (arith, past)) inside value below;
          behind = λ i past.
              placed.kept i (λ value below met. omega (arith, met, past, place-fits block value values below, place_inside more))
              ∙ p.behind i past;
        }
      where
        grows : (value : ℕ) → value < values
            → part left (value * block + 2) (place + 1 - 2) ++ groups_of (drop end (rows_with value column)) ≡ groups_of (rows_with value column)
        grows value below =
            let from = value * block + 2 in
            let one : place + 1 - 2 ≡ place - 2 + 1 = omega (arith, p.started) in
            let spot : from + (place - 2) ≡ value * block + place = omega (arith, p.started) in
            let inside : from + (place - 2) < length left =
            omega (arith, p.started, place-fits block value values below, place_inside more, placed.same, p.same, lent)
            in
            let kept : part left from (place - 2) ≡ part words from (place - 2) =
            part_same words left from (place - 2) placed.same (omega (arith, inside, placed.same))
            (λ i h.
            placed.kept (from + i)
            (λ other within met.
            places_differ block value other (2 + i) place (omega (arith, h, place_inside more)) (place_inside more) (omega (arith, h)) (omega (arith, met))))
            in
            rw (one, part-more left from (place - 2) inside, kept, spot, placed.put value below, append_assoc, ← next value) (p.groups value below)

  pub spread_all : length column ≤ at → Spread block values column words₀ words
  spread_all done =
      let count : place - 2 ≡ groups_for (length column) = omega (arith, p.places, p.started) in
      record {
        same = p.same;
        groups = λ value below.
            rw (count, groups_of-past (rows_with value column) at (rw length-rows_with done), append-nil) at (p.groups value below);
        behind =
            let from = values * block in
            ext_get_or 0 (drop from words) (drop from words₀) (simp length-drop (ap (λ (n : ℕ). n - from) p.same))
            (λ i h. get_or-drop from words i 0 ∙ p.behind (from + i) (omega arith) ∙ sym (get_or-drop from words₀ i 0));
      }

-- a turn of the pass: the rows of the next group are cut off
pub record Turn (column rows rest : List ℕ) (at : ℕ) : Type 0 where
  pub more : at < length column
  pub few : length rows ≤ 31
  pub end : at + length rows ≡ min (at + 31) (length column)
  pub rows_are : take (at + length rows - at) (drop at column) ≡ rows
  pub rest_is : rest ≡ drop (at + length rows) column

pub turn : {column left rows rest : List ℕ} {at size : ℕ} → left ≡ drop at column → left ≡ rows ++ rest → size ≡ 31
    → length rows ≡ min size (length left) → 0 < length left → Turn column rows rest at
turn {column} {left} {rows} {rest} {at} {size} these cut all many some =
    let long : length left ≡ length column - at = ap length these ∙ length-drop at column in
    let count : at + length rows - at ≡ length rows = omega arith in
    record {
      more = omega (arith, long);
      few = omega (arith, many, all);
      end = omega (arith, long, many, all);
      rows_are = rw (count, ← these, cut) (take-append_seam rows rest);
      rest_is = rw (← drop-drop, ← these, cut) (sym (drop-append_seam rows rest));
    }

-- ---- the blocks are cleared first

pub length-cleared : (words : List ℕ) (count : ℕ) → count ≤ length words → length (replicate count 0 ++ drop count words) ≡ length words
length-cleared words count h = simp (length-append, length-replicate, length-drop) (omega arith)

module _ (block values : ℕ) (words cleared : List ℕ) (lent : values * block ≤ length words) (e : cleared ≡ replicate (values * block) 0 ++ drop (values * block) words) where
  -- the places of all blocks are clear
  pub all_clear : (spot : ℕ) → spot < block → Clear values block spot cleared
  all_clear spot inside value below =
      let size = values * block in
      let within : value * block + spot < size = omega (arith, place-fits block value values below) in
      ap (λ (words : List ℕ). get_or words (value * block + spot) 0) e
      ∙ get_or-append (replicate size 0) (drop size words) 0 (value * block + spot) (rw length-replicate within)
      ∙ get_or-zeros size (value * block + spot)

  -- and the rest is as it was
  pub spread_over : {column left : List ℕ} → Spread block values column cleared left → Spread block values column words left
  spread_over s =
      let size = values * block in
      record {
        same = s.same ∙ ap length e ∙ length-cleared words size lent;
        groups = s.groups;
        behind = s.behind ∙ ap (drop size) e ∙ drop_at (replicate size 0) (drop size words) size (length-replicate {A = ℕ} size 0);
      }
