-- The loop over the groups of a span: those before the next one are marked. Assumes nothing.
use Rattle.std.specs.Prelude.{Option, None}
use mathlib.Core.Path.{◌≡◌, refl, ◌∙◌, ap, sym}
use mathlib.Core.Bool.{Bool, true, false, false≢true}
use mathlib.Core.List.{List}
use Prim.Native.Nat.{ℕ, ◌*◌, ◌<◌, ◌≤◌}
use native.Mathlib.Omega.{arith}
use lib.ListN.{length}
use Rattle.dump_marks.specs.Inner.{marked_in_groups, groups_hold, groups_marked}
use Rattle.block_read.specs.declared.read.Reading.{Reading}
use Rattle.dump_marks.proofs.EachRow.{length_each}
use Rattle.dump_marks.proofs.marking.Spans.{holds_none, marked_none, holds_join, marked_join, holds_broken}

module _ (reading : ℕ → Option Reading) (issued value : ℕ) where
  -- what a span answers and leaves
  abbrev pub Spanned : ℕ → ℕ → List ℕ → List ℕ → Bool → Type 0
  Spanned from to rows₀ rows r =
      (r ≡ groups_hold reading from to issued rows₀) × (r ≡ true → rows ≡ groups_marked reading from to issued value rows₀)

  -- the groups before `group` are marked
  pub record Spanning (from to : ℕ) (rows₀ rows : List ℕ) (group : ℕ) : Type 0 where
    pub up : from ≤ group
    pub on : group ≤ to
    pub held : groups_hold reading from group issued rows₀ ≡ true
    pub leaves : rows ≡ groups_marked reading from group issued value rows₀

  pub begin : (from to : ℕ) (rows : List ℕ) → from ≤ to → Spanning from to rows rows from
  begin from to rows h =
      record {
        up = omega arith;
        on = h;
        held = holds_none reading issued from rows;
        leaves = sym (marked_none reading issued from rows value);
      }

  module _ {from to : ℕ} {rows₀ rows : List ℕ} {group : ℕ} (s : Spanning from to rows₀ rows group) where
    pub keeps_length : length rows ≡ length rows₀
    unfolding groups_marked
    keeps_length = ap length s.leaves ∙ length_each (marked_in_groups reading from group issued value) 0 rows₀

    pub ends : to ≤ group → Spanned from to rows₀ rows true
    ends h =
        let all : group ≡ to = omega (arith, s.on) in
        (sym (rw all at s.held), λ yes. rw all at s.leaves)

    -- what is said of the groups up to `end`, by what is said of those from `group` on
    upto : (end : ℕ) → group ≤ end
        → groups_hold reading from end issued rows₀ ≡ groups_hold reading group end issued rows
    upto end h = rw (holds_join reading issued from group end value s.up h rows₀, s.held, ← s.leaves) refl

    -- the groups up to `end` are marked too
    module _ (end : ℕ) (more : group < end) (on : end ≤ to) (next : List ℕ) where
      pub next-groups : (told : Bool) → told ≡ true → Spanned group end rows next told → Spanning from to rows₀ next end
      next-groups told held one =
          record {
            up = omega (arith, s.up);
            on = on;
            held = upto end (omega arith) ∙ sym one.0 ∙ held;
            leaves = one.1 held
                ∙ rw (marked_join reading issued from group end value s.up (omega arith) rows₀, ← s.leaves) refl;
          }

      pub stops_at : (told : Bool) → told ≡ false → Spanned group end rows next told → Spanned from to rows₀ next false
      stops_at told fails one = (
        sym (upto to (omega arith) ∙ rw (holds_join reading issued group end to value (omega arith) on rows, ← one.0, fails) refl),
        λ yes. absurd (false≢true yes),
      )

    -- the next group is not read
    pub breaks_at : group < to → group * 31 < issued → issued ≤ length rows → reading group ≡ None → Spanned from to rows₀ rows false
    breaks_at more some room broken = (
      sym (upto to (omega arith) ∙ holds_broken reading issued group to rows more some room broken),
      λ yes. absurd (false≢true yes),
    )
