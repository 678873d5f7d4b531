-- What is taken into a list: a step, one part of the groups after the other, and the zeros behind the last one. Assumes nothing.
use mathlib.Core.Path.{◌≡◌, refl, ◌∙◌, ap, sym}
use mathlib.Core.List.{List, [], ◌∷◌, ◌++◌, append_assoc, append-nil}
use Prim.Native.Nat.{ℕ, zero, suc, ◌+◌, ◌-◌, ◌*◌, ◌<◌, ◌≤◌}
use native.Mathlib.Nat.{zero-mul, suc-mul}
use native.Mathlib.Omega.{arith}
use lib.ListN.{length, get_or, set, take, drop, replicate, length-append, length-replicate, length-map, take-append-drop}
use lib.Seq.{sets, length-sets, get_or-set_other, drop-cons, take-add}
use Rattle.std.specs.Simd.{first_chunks}
use Rattle.std.proofs.lemmas.List.{drop-drop}
use Rattle.groups.proofs.Sets.{sets-append}
use Rattle.words.specs.Words.{Run, runs_of, encode}
use Rattle.words.specs.Inner.{uniform, after, written, last_words, Takes, no_run, Fits, Follows, Closes}
use Rattle.words.specs.declared.writer.Pending.{Pending}
use Rattle.words.specs.declared.writer.Step.{Step}
use Rattle.words.specs.declared.writer.ListWriter.{ListWriter}
use Rattle.words.proofs.Runs.{by_fill, by_group, joins}
use Rattle.words.proofs.Size.{encode-length}
use Rattle.words.proofs.Writing.{Writing, written-length, begins, push_fits, push_on, closes, ends}
use Rattle.blocks.specs.Block.{padded}
use Rattle.blocks.proofs.Rooms.{length-padded}
use Rattle.load_list.specs.Inner.{Clear}

-- ---- writes

-- what stands behind them is as it was
get_or-behind : (out : List ℕ) (at : ℕ) (words : List ℕ) (place : ℕ) → at + length words ≤ place → get_or (sets out at words) place 0 ≡ get_or out place 0
get_or-behind out at [] place h = refl
get_or-behind out at (word ∷ words) place h =
    get_or-behind (set out at word) (suc at) words place (omega arith)
    ∙ get_or-set_other out at place word 0 (λ met. omega (arith, met, h))

-- ---- words

-- the list of all has room
pub list-fits : (total : ℕ) (groups : List ℕ) → length groups ≤ total → length (encode (padded total groups)) ≤ total
list-fits total groups h = omega (arith, encode-length (padded total groups), length-padded total groups h)

-- some groups have some words
some_words : (groups : List ℕ) → 0 < length groups → 0 < length (encode groups)
some_words [] h = absurd (omega arith)
some_words (group ∷ groups) h =
    let some : List Run → Type 0 = λ runs. 0 < length runs in
    rw length-map
    (by_group some group (runs_of groups)
    (λ bit b e. by_fill some bit (runs_of groups) (λ a. omega arith) (λ count rest e. omega arith))
    (λ p q. omega arith))

-- ---- what is taken in

pub follows_none : (list : ListWriter) → list.pending.bit < 2 → Follows [] list list
follows_none list is_bit =
    record { words = []; law = λ rest. refl; is_bit = is_bit; grows = omega arith; counts = omega arith; writes = refl }

pub follows_step : {groups : List ℕ} {step : Step} {list further : ListWriter}
    → Takes list.pending groups step → further.written ≡ list.written + step.words → further.pending ≡ step.pending
    → further.out.now ≡ sets list.out.now list.written (written step) → Follows groups list further
follows_step {step = step} t counts keeps writes =
    record {
      words = written step;
      law = λ rest. rw keeps (t.law rest);
      is_bit = rw keeps t.is_bit;
      grows = rw keeps t.grows;
      counts = rw (written-length step t.few) counts;
      writes = writes;
    }

-- groups that make the pending run longer
pub follows_run : (list : ListWriter) (count : ℕ) → list.pending.bit < 2
    → Follows (uniform list.pending.bit count) list (record list { pending = record { bit = list.pending.bit; count = list.pending.count + count } })
follows_run list count is_bit =
    record {
      words = [];
      law = λ rest. ap encode (joins list.pending.bit list.pending.count count rest);
      is_bit = is_bit;
      grows = rw length-replicate (omega arith);
      counts = omega arith;
      writes = refl;
    }

module _ {groups : List ℕ} {list : ListWriter} (p : Fits groups list) where
  -- a step that takes the groups in has room
  pub step_fits : {step : Step} → Takes list.pending groups step → list.written + step.words ≤ length list.out.now
  step_fits {step} t = omega (arith, p.room, simp length-append at (ap length (t.law p.behind)), written-length step t.few)

  -- and so has one word more
  pub some_room : 0 < length groups → list.written < length list.out.now
  some_room some =
      omega (
        arith,
        p.room,
        some_words (after list.pending (groups ++ p.behind))
            (omega (arith, length-append (uniform list.pending.bit list.pending.count) (groups ++ p.behind), length-append groups p.behind)),
      )

-- the first of some groups fit where all do
fits-front : {list : ListWriter} (front back : List ℕ) → Fits (front ++ back) list → Fits front list
fits-front front back p =
    record {
      is_bit = p.is_bit;
      few = omega (arith, p.few, length-append front back);
      behind = back ++ p.behind;
      room = rw append_assoc at p.room;
    }

module _ {groups : List ℕ} {list further : ListWriter} (f : Follows groups list further) where
  -- the groups behind them fit where all did
  pub fits_on : (more : List ℕ) → Fits (groups ++ more) list → Fits more further
  fits_on more p =
      let all : length (encode (after list.pending (groups ++ more ++ p.behind))) ≡ length f.words + length (encode (after further.pending (more ++ p.behind))) =
      rw append_assoc (ap length (f.law (more ++ p.behind)) ∙ length-append f.words (encode (after further.pending (more ++ p.behind))))
      in
      record {
        is_bit = f.is_bit;
        few = omega (arith, f.grows, p.few, length-append groups more);
        behind = p.behind;
        room = omega (arith, f.counts, ap length f.writes, length-sets list.out.now list.written f.words, p.room, all);
      }

  -- 0 stands behind their words too
  pub clear_on : Clear list → Clear further
  clear_on clear =
      record {
        behind = λ place h.
            ap (λ (words : List ℕ). get_or words place 0) f.writes
            ∙ get_or-behind list.out.now list.written f.words place (omega (arith, h, f.counts))
            ∙ clear.behind place (omega (arith, h, f.counts));
      }

  -- and are taken in then
  pub follows_on : {more : List ℕ} {last : ListWriter} → Follows more further last → Follows (groups ++ more) list last
  follows_on {more} g =
      record {
        words = f.words ++ g.words;
        law = λ rest. rw append_assoc (f.law (more ++ rest) ∙ rw (g.law rest, append_assoc) refl);
        is_bit = g.is_bit;
        grows = omega (arith, f.grows, g.grows, length-append groups more);
        counts = omega (arith, f.counts, g.counts, length-append f.words g.words);
        writes = g.writes ∙ rw (f.writes, f.counts, sets-append) refl;
      }

-- ---- one part of the groups after the other

module _ {groups : List ℕ} {list : ListWriter} (p : Fits groups list) {now : ListWriter} (i : ℕ) (f : Follows (take i groups) list now) where
  pub part-fits : (count : ℕ) → Fits (take count (drop i groups)) now
  part-fits count =
      fits-front (take count (drop i groups)) (drop count (drop i groups))
      (rw take-append-drop (fits_on f (drop i groups) (rw take-append-drop p)))

  pub part_follows : (end : ℕ) → i ≤ end → {further : ListWriter} → Follows (take (end - i) (drop i groups)) now further → Follows (take end groups) list further
  part_follows end h g =
      let whole : end ≡ i + (end - i) = omega arith in
      rw (whole, take-add) (follows_on f g)

-- a part of one group
pub one_group : (groups : List ℕ) (i : ℕ) → i < length groups → take (i + 1 - i) (drop i groups) ≡ get_or groups i 0 ∷ []
one_group groups i h =
    let one : i + 1 - i ≡ 1 = omega arith in
    rw (one, drop-cons groups i 0 h) refl

-- a part of many groups, where the groups are cut into parts of one size
pub nth_part : (size count : ℕ) (groups : List ℕ) (i : ℕ) → i < count → get_or (first_chunks size count groups) i [] ≡ take size (drop (i * size) groups)
nth_part size zero groups i h = absurd (omega arith)
nth_part size (suc count) groups zero h = rw zero-mul refl
nth_part size (suc count) groups (suc i) h =
    let further : suc i * size ≡ size + i * size = omega (arith, suc-mul i size) in
    nth_part size count (drop size groups) i (omega arith) ∙ rw (drop-drop, further) refl

-- ---- all groups, with the zeros behind the last one

module _ (total : ℕ) (groups out₀ : List ℕ)
    (r : (length groups ≤ total) × (total ≤ 4096) × (total ≤ length out₀) × ((place : ℕ) → get_or out₀ place 0 ≡ 0))
    (none : ListWriter) (b : (none.out.now ≡ out₀) × (none.written ≡ 0) × (none.pending ≡ no_run)) where
  begun : Writing (padded total groups) (padded total groups) out₀ none.out.now none.written none.pending
  begun = rw (b.0, b.1, b.2) (begins (padded total groups) out₀)

  room : length (encode (padded total groups)) ≤ length out₀
  room = omega (arith, list-fits total groups r.0, r.2)

  no_count : none.pending.count ≡ 0
  no_count = ap (λ (pending : Pending). pending.count) b.2

  all_fit : Fits (padded total groups) none
  all_fit =
      push_fits begun room (padded total groups) [] (sym (append-nil (padded total groups))) (omega (arith, no_count, r.1, length-padded total groups r.0))

  -- the groups fit
  pub groups_fit : Fits groups none
  unfolding padded
  groups_fit = fits-front groups (replicate (total - length groups) 0) all_fit

  pub clear_none : Clear none
  clear_none = record { behind = λ place h. rw b.0 (r.3 place) }

  module _ {some : ListWriter} (f : Follows groups none some) where
    -- and so do the zeros behind them
    pub zeros_fit : Fits (replicate (total - length groups) 0) some
    unfolding padded
    zeros_fit = fits_on f (replicate (total - length groups) 0) all_fit

    module _ {all : ListWriter} (g : Follows (replicate (total - length groups) 0) some all) where
      all_follow : Follows (padded total groups) none all
      unfolding padded
      all_follow = follows_on f g

      done : Writing (padded total groups) [] out₀ all.out.now all.written all.pending
      done = push_on begun room (padded total groups) [] (sym (append-nil (padded total groups))) all_follow

      pub all_close : Closes all
      all_close = closes done room refl (omega (arith, all_follow.grows, no_count, r.1, length-padded total groups r.0))

      pub all_ends : (all.written + length (last_words all.pending) ≡ length (encode (padded total groups)))
          × (sets all.out.now all.written (last_words all.pending) ≡ encode (padded total groups) ++ drop (all.written + length (last_words all.pending)) out₀)
      all_ends = ends done room refl
