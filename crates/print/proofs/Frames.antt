-- Laws of an input line: its length, its column, and whether it is a frame. Assumes nothing.
use mathlib.Core.Path.{◌≡◌, refl, ◌∙◌, ap, sym}
use mathlib.Core.Bool.{Bool, true, false, cond, ◌&&◌}
use mathlib.Core.List.{List, [], ◌∷◌, ◌++◌}
use Prim.Native.Nat.{ℕ, zero, suc, ◌+◌, ◌-◌, ◌*◌, ◌/◌, ◌%◌, ◌<◌, ◌≤◌}
use native.Mathlib.Omega.{arith}
use lib.Dec.{leb, eqb}
use native.Mathlib.Nat.{add-zero}
use lib.ListN.{length, get_or, take, drop, set, length-append, length-drop, length-set}
use lib.Seq.{take_all, paste, paste-zero, drop_at, drop-drop, get_or-drop}
use Rattle.std.proofs.lemmas.List.{get_or_append_left}
use Rattle.groups.proofs.Sets.{copies, copied}
use borrow.Author.Tests.{leb-true, le-leb, lt-leb, eq-eqb, ne_eqb}
use Rattle.digits.specs.Digits.{are_digits, digit_value}
use Rattle.print.specs.Frame.{column_in, line_length, is_frame}

-- ---- a line without its final newline

module _ (input : List ℕ) where
  pub no_bytes : length input ≡ 0 → line_length input ≡ 0
  no_bytes = go input
    where
      go : (input : List ℕ) → length input ≡ 0 → line_length input ≡ 0
      go [] e = refl
      go (byte ∷ input) e = absurd (omega arith)

  pub newline_ends : get_or input (length input - 1) 0 ≡ 10 → line_length input ≡ length input - 1
  newline_ends e = rw (eq-eqb (get_or input (length input - 1) 0) 10 e) refl

  pub no_newline : (get_or input (length input - 1) 0 ≡ 10 → ⊥) → line_length input ≡ length input
  no_newline e = rw (ne_eqb (get_or input (length input - 1) 0) 10 e) refl

  pub line_short : line_length input ≤ length input
  line_short = go (eqb (get_or input (length input - 1) 0) 10)
    where
      go : (ends : Bool) → cond ends (length input - 1) (length input) ≤ length input
      go true = omega arith
      go false = omega arith

  pub line_long : length input ≤ line_length input + 1
  line_long = go (eqb (get_or input (length input - 1) 0) 10)
    where
      go : (ends : Bool) → length input ≤ cond ends (length input - 1) (length input) + 1
      go true = omega arith
      go false = omega arith

-- ---- a column

pub length-column : (digits : List ℕ) → length (column_in digits) ≡ length digits / 2
length-column [] = refl
length-column (high ∷ []) = refl
length-column (high ∷ low ∷ digits) = omega (arith, length-column digits)

pub byte_at : (digits : List ℕ) (row : ℕ) → row < length digits / 2
    → get_or (column_in digits) row 0 ≡ digit_value (get_or digits (2 * row) 0) * 16 + digit_value (get_or digits (2 * row + 1) 0)
byte_at [] row h = absurd (omega arith)
byte_at (high ∷ []) row h = absurd (omega arith)
byte_at (high ∷ low ∷ digits) zero h = refl
byte_at (high ∷ low ∷ digits) (suc row) h =
    let even : 2 * suc row ≡ suc (suc (2 * row)) = omega arith in
    let odd : 2 * suc row + 1 ≡ suc (suc (2 * row + 1)) = omega arith in
    rw (odd, even) (byte_at digits row (omega arith))

-- the first rows of a column are written over the front of a place, and the digits of the others are left, to be cut in pairs
pub record Reading (digits old now left : List ℕ) (size rows : ℕ) : Type 0 where
  pub rest : left ≡ drop (2 * rows) digits
  pub pairs : size ≡ 2
  pub within : 2 * rows ≤ length digits
  pub long : length now ≡ length old
  pub written : now ≡ paste old 0 (column_in digits) rows

pub starts : {digits left : List ℕ} (old : List ℕ) {size rows : ℕ} → left ≡ digits → size ≡ 2 → rows ≡ 0 → Reading digits old old left size rows
starts {digits} old l s none =
    rw none record {
      rest = l;
      pairs = s;
      within = omega arith;
      long = refl;
      written = paste-zero old 0 (column_in digits);
    }

module _ {digits old now left : List ℕ} {size rows : ℕ} (r : Reading digits old now left size rows) (room : length digits / 2 ≤ length old) where
  -- the next two digits make a row
  module _ (pair after : List ℕ) (cut : (left ≡ pair ++ after) × (length pair ≡ size)) where
    parts : drop (2 * rows) digits ≡ pair ++ after
    parts = sym r.rest ∙ cut.0

    two : length pair ≡ 2
    two = cut.1 ∙ r.pairs

    more : 2 * rows + 2 ≤ length digits
    more = omega (arith, length-drop (2 * rows) digits, length-append pair after, ap length parts, two, r.within)

    digit : (k : ℕ) → k < 2 → get_or pair k 0 ≡ get_or digits (2 * rows + k) 0
    digit k h = sym (get_or_append_left pair after 0 k (omega (arith, two))) ∙ ap (λ (l : List ℕ). get_or l k 0) (sym parts) ∙ get_or-drop (2 * rows) digits k 0

    left_after : after ≡ drop (2 * (rows + 1)) digits
    left_after =
        let place : 2 * rows + 2 ≡ 2 * (rows + 1) = omega arith in
        sym (drop_at pair after 2 two) ∙ ap (drop 2) (sym parts) ∙ drop-drop 2 (2 * rows) digits ∙ ap (λ (n : ℕ). drop n digits) place

    pub reads : {size₁ row next byte : ℕ} → size₁ ≡ size → row ≡ rows → next ≡ rows + 1 → byte ≡ digit_value (get_or pair 0 0) * 16 + digit_value (get_or pair 1 0)
        → Reading digits old (set now row byte) after size₁ next
    reads {size₁} {row} {next} {byte} s e n b =
        let first = digit 0 (omega arith) in
        let second = digit 1 (omega arith) in
        let here : byte ≡ get_or (column_in digits) rows 0 = b ∙ rw (first, second, add-zero) (sym (byte_at digits rows (omega (arith, more)))) in
        rw (e, n, here) record {
          rest = left_after;
          pairs = s ∙ r.pairs;
          within = omega (arith, more);
          long = simp length-set r.long;
          written = copies (column_in digits) old now rows r.written (omega (arith, length-column digits, room)) (omega (arith, length-column digits, more));
        }

  -- fewer than two digits are left
  pub read : length left < size → (length digits / 2 ≡ length (column_in digits)) × (now ≡ column_in digits ++ drop (length digits / 2) old)
  read few =
      let many = length-column digits in
      let all : rows ≡ length (column_in digits) = omega (arith, few, r.pairs, r.within, ap length r.rest, length-drop (2 * rows) digits, many) in
      (sym many, rw (← many) (copied (column_in digits) old now rows r.written all))

-- ---- a frame

module _ (line : List ℕ) where
  pub too_short : length line < 16 → is_frame line ≡ false
  unfolding is_frame
  too_short h = rw (lt-leb 16 (length line) h) refl

  pub too_long : 8016 < length line → is_frame line ≡ false
  unfolding is_frame
  too_long h = rw (le-leb 16 (length line) (omega arith), lt-leb (length line) 8016 h) refl

  module _ (some : 16 ≤ length line) (few : length line ≤ 8016) where
    pub odd_line : (length line % 2 ≡ 0 → ⊥) → is_frame line ≡ false
    unfolding is_frame
    odd_line h = rw (le-leb 16 (length line) some, le-leb (length line) 8016 few, ne_eqb (length line % 2) 0 h) refl

    pub digits_decide : length line % 2 ≡ 0 → is_frame line ≡ are_digits line
    unfolding is_frame
    digits_decide h = rw (le-leb 16 (length line) some, le-leb (length line) 8016 few, eq-eqb (length line % 2) 0 h) refl

  -- what a frame's length is
  pub frame_length : is_frame line ≡ true → (16 ≤ length line) × (length line ≤ 8016)
  unfolding is_frame
  frame_length = go (leb 16 (length line)) (leb (length line) 8016) refl refl
    where
      go : (some few : Bool) → leb 16 (length line) ≡ some → leb (length line) 8016 ≡ few
          → (some && few && eqb (length line % 2) 0 && are_digits line) ≡ true → (16 ≤ length line) × (length line ≤ 8016)
      go true true e f is = (leb-true 16 (length line) e, leb-true (length line) 8016 f)
      go true false e f is = let z : ◌≡◌ {A = ℕ} 0 1 = cc in absurd (omega arith)
      go false few e f is = let z : ◌≡◌ {A = ℕ} 0 1 = cc in absurd (omega arith)

  -- the digits after the four numbers, as a slice
  pub rest_of_line : take (length line - 16) (drop 16 line) ≡ drop 16 line
  rest_of_line = take_all (length line - 16) (drop 16 line) (omega (arith, length-drop 16 line))
