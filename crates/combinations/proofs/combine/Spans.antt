-- Two lists that are combined span by span: a turn of the loop, and its end. Assumes nothing.
use mathlib.Core.Path.{◌≡◌, ◌∙◌, ap, ap₂}
use mathlib.Core.List.{List, [], ◌++◌}
use Prim.Native.Nat.{ℕ, min, ◌+◌, ◌<◌, ◌≤◌}
use native.Mathlib.Omega.{arith}
use lib.ListN.{length, drop, replicate, length-replicate}
use lib.Seq.{sets}
use Rattle.words.specs.Words.{decode, encode}
use Rattle.words.specs.Inner.{Alone, no_run, last_words, Fits, Follows, Closes}
use Rattle.words.specs.declared.writer.ListWriter.{ListWriter}
use Rattle.words.proofs.Writing.{Writing, begins, push_fits, push_on, closes, ends}
use Rattle.lists.specs.Combine.{Operation, on_group, combined}
use Rattle.lists.specs.Inner.{Covers}
use Rattle.combinations.specs.Inner.{remaining, shorter, Opened}
use Rattle.combinations.specs.declared.span.Span.{Span}
use Rattle.lists.proofs.Operations.{GivesBits, alone-on_group}
use Rattle.lists.proofs.Combining.{combined-none, combined_spans}
use Rattle.combinations.proofs.span.Opening.{length-remaining}

-- what is known of one of the lists when some groups are done
pub record Side (list : List ℕ) (groups done : ℕ) (at-hand : Span) : Type 0 where
  pub long : length (remaining list at-hand) + done ≡ groups
  pub alone : Alone at-hand.group at-hand.left
  pub small : at-hand.group < 0x80000000
  pub near : at-hand.next ≤ length list

-- the first `done` groups of both lists are combined and, but for what is pending, written
pub record Combining (operation : Operation) (left right : List ℕ) (groups : ℕ) (out₀ : List ℕ) (list : ListWriter)
    (from-left from-right : Span) (done : ℕ) : Type 0 where
  pub on_left : Side left groups done from-left
  pub on_right : Side right groups done from-right
  pub few : list.pending.count ≤ done
  pub room : length (encode (combined operation (decode left) (decode right))) ≤ length out₀
  pub writing : Writing (combined operation (decode left) (decode right))
      (combined operation (remaining left from-left) (remaining right from-right)) out₀ list.out.now list.written list.pending

-- no word is opened
abbrev unopened : Span
unopened = record { group = 0; left = 0; next = 0 }

side_begins : (groups : ℕ) (list : List ℕ) → Covers groups list → Side list groups 0 unopened
side_begins groups list covers = record { long = omega (arith, covers.long); alone = λ none all. omega arith; small = omega arith; near = omega arith }

pub combining_begins : (operation : Operation) (left right : List ℕ) (groups : ℕ) (out : List ℕ) (list : ListWriter)
    → Covers groups left → Covers groups right → length (encode (combined operation (decode left) (decode right))) ≤ length out
    → (list.out.now ≡ out) × (list.written ≡ 0) × (list.pending ≡ no_run) → Combining operation left right groups out list unopened unopened 0
combining_begins operation left right groups out list on_left on_right room b =
    record {
      on_left = side_begins groups left on_left;
      on_right = side_begins groups right on_right;
      few = rw b.2 (omega arith);
      room = room;
      writing = rw (b.0, b.1, b.2) (begins (combined operation (decode left) (decode right)) out);
    }

-- what a turn takes: a span of each list, the group that the two make, and as many of it as both spans have
pub record Turn (operation : Operation) (left right : List ℕ) (from-left from-right x y : Span) (group count : ℕ) : Type 0 where
  pub opens_left : Opened left from-left x
  pub opens_right : Opened right from-right y
  pub makes : group ≡ on_group operation x.group y.group
  pub shortest : count ≡ min x.left y.left

pub side_on : (list : List ℕ) (groups done count : ℕ) (at-hand opened : Span)
    → Side list groups done at-hand → Opened list at-hand opened → count ≤ opened.left → Side list groups (done + count) (shorter opened count)
side_on list groups done count at-hand opened side opens h =
    record {
      long = omega (arith, side.long, ap length opens.same, length-remaining list opened, length-remaining list (shorter opened count));
      alone = λ none all. omega (arith, opens.alone none all);
      small = opens.small;
      near = opens.near;
    }

module _ {operation : Operation} {left right : List ℕ} {groups : ℕ} {out₀ : List ℕ} {list : ListWriter} {from-left from-right : Span} {done : ℕ}
    (k : Combining operation left right groups out₀ list from-left from-right done) where
  module _ {x y : Span} {group count : ℕ} (turn : Turn operation left right from-left from-right x y group count) where
    pub turn_some : 0 < count
    turn_some = omega (arith, turn.shortest, turn.opens_left.some, turn.opens_right.some)

    pub turn_near : done + count ≤ groups
    turn_near = omega (arith, k.on_left.long, ap length turn.opens_left.same, length-remaining left x, turn.shortest)

    pub turn_alone : GivesBits operation → Alone group count
    turn_alone bits =
        rw turn.makes
        (alone-on_group operation bits x.group x.left y.group y.left count turn.opens_left.alone turn.opens_right.alone
        (omega (arith, turn.shortest))
        (omega (arith, turn.shortest)))

    -- the groups of the turn, and those after them
    turn_groups : combined operation (remaining left from-left) (remaining right from-right)
        ≡ replicate count group ++ combined operation (remaining left (shorter x count)) (remaining right (shorter y count))
    turn_groups =
        ap₂ (combined operation) turn.opens_left.same turn.opens_right.same
        ∙ rw turn.makes
        (combined_spans operation count x.left y.left x.group y.group (decode (drop x.next left)) (decode (drop y.next right))
        (omega (arith, turn.shortest))
        (omega (arith, turn.shortest)))

    pub turn_fits : groups ≤ 4096 → Fits (replicate count group) list
    turn_fits limit =
        push_fits k.writing k.room (replicate count group) _ turn_groups (omega (arith, k.few, turn_near, limit, length-replicate count group))

    pub turn_on : {further : ListWriter} → Follows (replicate count group) list further
        → Combining operation left right groups out₀ further (shorter x count) (shorter y count) (done + count)
    turn_on f =
        record {
          on_left = side_on left groups done count from-left x k.on_left turn.opens_left (omega (arith, turn.shortest));
          on_right = side_on right groups done count from-right y k.on_right turn.opens_right (omega (arith, turn.shortest));
          few = omega (arith, f.grows, length-replicate count group, k.few);
          room = k.room;
          writing = push_on k.writing k.room (replicate count group) _ turn_groups f;
        }

  -- all groups are done
  module _ (all : groups ≤ done) where
    none_left : combined operation (remaining left from-left) (remaining right from-right) ≡ []
    none_left = combined-none operation (remaining left from-left) (remaining right from-right) (omega (arith, k.on_left.long))

    pub end_fits : groups ≤ 4096 → Closes list
    end_fits limit = closes k.writing k.room none_left (omega (arith, k.few, k.on_left.long, limit))

    pub combining_ends : (list.written + length (last_words list.pending) ≡ length (encode (combined operation (decode left) (decode right))))
        × (sets list.out.now list.written (last_words list.pending)
        ≡ encode (combined operation (decode left) (decode right)) ++ drop (list.written + length (last_words list.pending)) out₀)
    combining_ends = ends k.writing k.room none_left
