-- The ones of one word, and the loop that counts those of a list: one word more, and the end. Assumes nothing.
use Rattle.std.proofs.Common.{◌≡◌, ℕ, ◌+◌, ◌*◌, ◌/◌, ◌%◌, ◌<◌, ◌≤◌, List, length, take, sym, refl, ap, ◌∙◌, mul-le-mul_left, one-mul, arith, take_all}
use lib.Count.{ones}
use Rattle.groups.specs.Rows.{row_limit, ones_in, bits_of, rows_of}
use Rattle.words.specs.Words.{run_of, span, group_in, decode}
use Rattle.words.proofs.Forms.{run_at, groups_of_run, decode_upto, length_split, length_from, length_upto}
use Rattle.words.proofs.Ones.{ones_in-append, ones_in-bits_of, ones_in-le, ones_in-uniform, ones_in-replicate}
use Rattle.groups.proofs.Groups.{rows_of-append}
use Rattle.words.proofs.word.Reading.{reads_literal, reads_fill}

-- ---- one word

pub literal_ones : (word : ℕ) → word < 0x80000000 → ones word ≡ span (run_of word) * ones_in (bits_of 31 (group_in (run_of word)))
literal_ones word low = rw (reads_literal word low) (sym (one-mul (ones_in (bits_of 31 word)) ∙ ones_in-bits_of word low))

module _ (word bit count : ℕ) (high : 0x80000000 ≤ word) (b : bit ≡ word / 0x40000000 % 2) (c : count ≡ word % 0x40000000) where
  pub fill_ones : count * (bit * 31) ≡ span (run_of word) * ones_in (bits_of 31 (group_in (run_of word)))
  fill_ones = rw (reads_fill word high, ← b, ← c, ones_in-uniform bit (omega arith)) refl

  pub fill_fits : 31 * span (run_of word) ≤ row_limit → count * (bit * 31) ≤ row_limit
  fill_fits few =
      let each : bit * 31 ≤ 31 = omega arith in
      let here = rw (reads_fill word high) at few in
      omega (arith, mul-le-mul_left count each)

-- ---- the loop

-- the ones of the words in front of place i are counted, at most 31 a group
pub record Counted (list : List ℕ) (sum i : ℕ) : Type 0 where
  pub within : i ≤ length list
  pub counts : sum ≡ ones_in (rows_of (decode (take i list)))
  pub room : sum ≤ 31 * length (decode (take i list))

pub count_none : (list : List ℕ) → Counted list 0 0
count_none list = record { within = omega arith; counts = refl; room = omega arith }

-- groups with at most 31 ones each
room_more : (sum groups count each : ℕ) → sum ≤ 31 * groups → each ≤ 31 → sum + count * each ≤ 31 * (groups + count)
room_more sum groups count each h k = omega (arith, mul-le-mul_left count k)

module _ (list : List ℕ) (i : ℕ) (h : i < length list) where
  ones_upto : ones_in (rows_of (decode (take (i + 1) list)))
      ≡ ones_in (rows_of (decode (take i list))) + span (run_at list i) * ones_in (bits_of 31 (group_in (run_at list i)))
  ones_upto =
      let front = decode (take i list) in
      let back = groups_of_run (run_at list i) in
      ap (λ (groups : List ℕ). ones_in (rows_of groups)) (decode_upto list i h)
      ∙ ap ones_in (rows_of-append front back)
      ∙ ones_in-append (rows_of front) (rows_of back)
      ∙ ap (◌+◌ (ones_in (rows_of front))) (ones_in-replicate (span (run_at list i)) (group_in (run_at list i)))

  pub span_fits : 31 * length (decode list) ≤ row_limit → 31 * span (run_at list i) ≤ row_limit
  span_fits few = omega (arith, length_split list i, length_from list i h)

  module _ {sum : ℕ} (c : Counted list sum i) (more : ℕ) (e : more ≡ span (run_at list i) * ones_in (bits_of 31 (group_in (run_at list i)))) where
    next_room : sum + more ≤ 31 * length (decode (take (i + 1) list))
    next_room =
        let run = run_at list i in
        rw (e, length_upto list i h)
        (room_more sum (length (decode (take i list))) (span run) (ones_in (bits_of 31 (group_in run))) c.room (ones_in-le 31 (group_in run)))

    pub sum_fits : 31 * length (decode list) ≤ row_limit → sum + more ≤ row_limit
    sum_fits few = omega (arith, next_room, length_split list (i + 1))

    pub count-more : Counted list (sum + more) (i + 1)
    count-more = record { within = omega arith; counts = rw (c.counts, e) (sym ones_upto); room = next_room }

pub count_all : (list : List ℕ) (sum i : ℕ) → length list ≤ i → Counted list sum i → sum ≡ ones_in (rows_of (decode list))
count_all list sum i h c = rw (← take_all i list h) c.counts
