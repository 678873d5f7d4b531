-- The exits of the calls that change rows: what is decided is carried out, and what is left is what the checks, in their order, call for. Assumes nothing.
use Rattle.std.specs.Prelude.{Option, Some, None, Ok, Err}
use mathlib.Core.Path.{◌≡◌, refl, sym, ap, ◌∙◌}
use mathlib.Core.Bool.{Bool, true, false, not, cond, ◌&&◌}
use mathlib.Core.List.{List, [], ◌∷◌}
use Prim.Native.Nat.{ℕ, ◌<◌}
use native.Mathlib.Omega.{arith}
use lib.Dec.{eqb}
use lib.ListN.{length}
use borrow.Author.Tests.{leb-false, eqb-false, not-false}
use Rattle.answers.specs.Outcome.{Check, ◌when◌}
use Rattle.answers.specs.declared.Refusal.{Refusal}
use Rattle.answers.specs.declared.Refusal.TheVariants.{Damaged, Gone}
use Rattle.answers.proofs.Accepted.{Passes}
use Rattle.blocks.specs.declared.sizes.Sizes.{Sizes}
use Rattle.block_read.specs.declared.fence.Fence.{Fence}
use Rattle.block_change.specs.Change.{flipped}
use Rattle.memory.specs.Entry.{bad_value, missing, full, grown}
use Rattle.memory.specs.Inner.{Planned, Fenced, refused_by, done_with}
use Rattle.memory.specs.Memory.{Memory, memory_of, sizes_of, block_at}
use Rattle.memory.specs.Outcomes.{After, made, Leaves}
use Rattle.memory.specs.Reading.{row_of, is_damaged, is_deleted, is_free}
use Rattle.memory.specs.declared.header.Header.{Header}
use Rattle.memory.specs.declared.header.Changed.{Changed}
use Rattle.memory.proofs.Deciding.{Enters, passes_enters, change_refuses, stop_refused, ready_goes_on, err_changes, ok_changes}
use Rattle.memory.proofs.Places.{numbers, fenced}
use Rattle.memory.proofs.RowLaws.{row-value}
use Rattle.change_value.specs.Change.{whole, merges_in, flipped_words, merged_in, flipped_in}
use Rattle.change_value.specs.Inner.{entered_whole}
use Rattle.change_value.proofs.Changing.{Puts, whole_other, merges_other, flipped_puts}
use Rattle.index.specs.Calls.{merge_after, insert_checks, insert_after, old_value, delete_checks, delete_after, update_checks, update_after}
use Rattle.index.specs.Inner.{flips_in, insert_decision, delete_decision, moves_in, update_decision}
use Rattle.index.specs.declared.deciding.Flipping.{Flipping}
use Rattle.index.specs.declared.deciding.Moving.{Moving}
use Rattle.index.proofs.answering.Exits.{whole-checks, whole_planned}
use Rattle.index.proofs.changing.Leaving.{refused_leaves, made_leaves}

module _ (words : List ℕ) (fences : List Fence) (header : Header) where
  abbrev memory : Memory
  memory = memory_of words fences

  -- ---- Merge

  module _ (value : ℕ) where
    abbrev merging : After
    merging = made 0 header (merged_in (sizes_of header) memory value)

    pub merge_stops : (refusal : Refusal) → Err refusal ≡ entered_whole words (length fences) header value
        → (changed : Changed) → changed ≡ refused_by header refusal → Leaves (merge_after header memory value) changed words fences
    unfolding merge_after entered_whole
    merge_stops refusal stop =
        refused_leaves header words fences refusal (merge_after header memory value)
        (stop_refused (length words) (length fences) header (whole-checks words fences header value) (change_refuses header memory merging) [] refusal stop)

    module _ (sizes : Sizes) (ready : Ok sizes ≡ entered_whole words (length fences) header value) where
      pub merge_done : (left : List ℕ) (remade : List Fence) → memory_of left remade ≡ merged_in sizes memory value
          → (changed : Changed) → changed ≡ done_with header 0 → Leaves (merge_after header memory value) changed left remade
      unfolding merge_after entered_whole
      merge_done left remade merges changed gives =
          made_leaves header 0 (merged_in (sizes_of header) memory value) (merge_after header memory value)
          (ready_goes_on (length words) (length fences) header (whole-checks words fences header value) (change_refuses header memory merging) [] sizes ready)
          changed gives left remade (rw (whole_planned words fences header value sizes ready) at merges)

  -- ---- a flip that was decided

  -- what carrying it out asks
  abbrev Asks : Sizes → ℕ → ℕ → Bool → Type 0
  Asks sizes value row merges =
      Fenced sizes (length words) (length fences) value
      × (whole sizes words value ≡ true)
      × (row < sizes.rows)
      × (merges ≡ merges_in sizes words value row)

  asks : Planned header (sizes_of header) (length words) (length fences) → (value row : ℕ) (merges : Bool) → value < header.values
      → row < header.rows → whole (sizes_of header) words value ≡ true → merges ≡ merges_in (sizes_of header) words value row
      → Asks (sizes_of header) value row merges
  asks is value row merges below issued are due = (fenced is value below, are, issued, due)

  -- ---- Insert

  module _ (value : ℕ) where
    -- the checks behind the first two
    abbrev insert_own : List Check
    insert_own =
        bad_value header value
        ∷ full header
        ∷ Damaged when not (is_free (row_of header memory header.issued))
        ∷ Damaged when not (whole (sizes_of header) words value)
        ∷ []

    abbrev inserting : After
    inserting = made header.issued (grown header) (flipped_in (sizes_of header) memory value header.issued)

    pub insert_kept : (refusal : Refusal) → Err refusal ≡ insert_decision header memory value
        → (changed : Changed) → changed ≡ refused_by header refusal → Leaves (insert_after header memory value) changed words fences
    unfolding insert_decision insert_after
    insert_kept refusal kept =
        refused_leaves header words fences refusal (insert_after header memory value)
        (err_changes header memory inserting (flips_in header memory value header.issued) (insert_checks header memory value) refusal kept)

    module _ (flip : Flipping) (flips : Ok flip ≡ insert_decision header memory value) where
      inserts : (flip ≡ flips_in header memory value header.issued) × (insert_after header memory value ≡ inserting)
          × Passes (insert_checks header memory value)
      unfolding insert_decision insert_after
      inserts = ok_changes header memory inserting (flips_in header memory value header.issued) (insert_checks header memory value) flip flips

      insert_enters : Enters (length words) (length fences) header insert_own (sizes_of header)
      insert_enters = passes_enters (length words) (length fences) header insert_own inserts.2

      pub spare_row : header.issued < header.rows
      spare_row = leb-false header.rows header.issued insert_enters.passes.1.0

      pub insert_asks : Asks flip.sizes flip.value header.issued flip.merges
      insert_asks =
          rw inserts.0
          (asks insert_enters.planned value header.issued _ (leb-false header.values value insert_enters.passes.0) spare_row
          (not-false (whole (sizes_of header) words value) insert_enters.passes.1.1.1.0) refl)

      pub insert_done : (left : List ℕ) (remade : List Fence) → memory_of left remade ≡ flipped_in flip.sizes memory flip.value header.issued
          → (changed : Changed) → changed ≡ done_with (grown header) header.issued → Leaves (insert_after header memory value) changed left remade
      insert_done left remade turned changed gives =
          made_leaves (grown header) header.issued (flipped_in (sizes_of header) memory value header.issued) (insert_after header memory value)
          inserts.1 changed gives left remade (rw inserts.0 at turned)

  module _ (row : ℕ) where
    abbrev old_value_lem : ℕ
    old_value_lem = old_value header memory row

    -- the value that holds a row which is not deleted is below d
    old_below : eqb (row_of header memory row).holders 0 ≡ false → old_value_lem < header.values
    old_below live = row-value header memory row (some (row_of header memory row).holders (eqb-false (row_of header memory row).holders 0 live))
      where
        some : (holders : ℕ) → (holders ≡ 0 → ⊥) → 0 < holders
        some holders h = omega (arith, h)

    -- ---- Delete

    abbrev delete_own : List Check
    delete_own =
        missing header row
        ∷ Damaged when is_damaged (row_of header memory row)
        ∷ Gone when is_deleted (row_of header memory row)
        ∷ Damaged when not (whole (sizes_of header) words old_value_lem)
        ∷ []

    abbrev deleting : After
    deleting = made 0 header (flipped_in (sizes_of header) memory old_value_lem row)

    pub delete_kept : (refusal : Refusal) → Err refusal ≡ delete_decision header memory row
        → (changed : Changed) → changed ≡ refused_by header refusal → Leaves (delete_after header memory row) changed words fences
    unfolding delete_decision delete_after
    delete_kept refusal kept =
        refused_leaves header words fences refusal (delete_after header memory row)
        (err_changes header memory deleting (flips_in header memory old_value_lem row) (delete_checks header memory row) refusal kept)

    module _ (flip : Flipping) (flips : Ok flip ≡ delete_decision header memory row) where
      deletes : (flip ≡ flips_in header memory old_value_lem row) × (delete_after header memory row ≡ deleting)
          × Passes (delete_checks header memory row)
      unfolding delete_decision delete_after
      deletes = ok_changes header memory deleting (flips_in header memory old_value_lem row) (delete_checks header memory row) flip flips

      delete_enters : Enters (length words) (length fences) header delete_own (sizes_of header)
      delete_enters = passes_enters (length words) (length fences) header delete_own deletes.2

      pub delete_asks : Asks flip.sizes flip.value row flip.merges
      delete_asks =
          rw deletes.0
          (asks delete_enters.planned old_value_lem row _ (old_below delete_enters.passes.1.1.0)
          (omega (arith, leb-false header.issued row delete_enters.passes.0, (numbers delete_enters.planned).few_issued))
          (not-false (whole (sizes_of header) words old_value_lem) delete_enters.passes.1.1.1.0) refl)

      pub delete_done : (left : List ℕ) (remade : List Fence) → memory_of left remade ≡ flipped_in flip.sizes memory flip.value row
          → (changed : Changed) → changed ≡ done_with header 0 → Leaves (delete_after header memory row) changed left remade
      delete_done left remade turned changed gives =
          made_leaves header 0 (flipped_in (sizes_of header) memory old_value_lem row) (delete_after header memory row)
          deletes.1 changed gives left remade (rw deletes.0 at turned)

    -- ---- Update

    module _ (value : ℕ) where
      abbrev update_own : List Check
      update_own =
          bad_value header value
          ∷ missing header row
          ∷ Damaged when is_damaged (row_of header memory row)
          ∷ Gone when is_deleted (row_of header memory row)
          ∷ Damaged when (not (eqb old_value_lem value) && not (whole (sizes_of header) words old_value_lem && whole (sizes_of header) words value))
          ∷ []

      abbrev moved : Memory
      moved = flipped_in (sizes_of header) (flipped_in (sizes_of header) memory old_value_lem row) value row

      abbrev updating : After
      updating = cond (eqb old_value_lem value) (made 0 header memory) (made 0 header moved)

      abbrev updates : Option Moving
      updates = cond (eqb old_value_lem value) None (Some (moves_in header memory old_value_lem value row))

      pub update_kept : (refusal : Refusal) → Err refusal ≡ update_decision header memory row value
          → (changed : Changed) → changed ≡ refused_by header refusal → Leaves (update_after header memory row value) changed words fences
      unfolding update_decision update_after
      update_kept refusal kept =
          refused_leaves header words fences refusal (update_after header memory row value)
          (err_changes header memory updating updates (update_checks header memory row value) refusal kept)

      -- a decision that is carried out
      module _ (decision : Option Moving) (decides : Ok decision ≡ update_decision header memory row value) where
        told : (decision ≡ updates) × (update_after header memory row value ≡ updating) × Passes (update_checks header memory row value)
        unfolding update_decision update_after
        told = ok_changes header memory updating updates (update_checks header memory row value) decision decides

      -- to the value that it has: accepted, and nothing is changed
      pub update_same : Ok None ≡ update_decision header memory row value
          → (changed : Changed) → changed ≡ done_with header 0 → Leaves (update_after header memory row value) changed words fences
      update_same same changed gives =
          let says = told None same in
          made_leaves header 0 memory (update_after header memory row value)
          (says.1 ∙ go (eqb old_value_lem value) says.0) changed gives words fences refl
        where
          go : (t : Bool) → None ≡ cond t None (Some (moves_in header memory old_value_lem value row))
              → cond t (made 0 header memory) (made 0 header moved) ≡ made 0 header memory
          go true e = refl
          go false e = cc

      module _ (moving : Moving) (moves : Ok (Some moving) ≡ update_decision header memory row value) where
        says : (Some moving ≡ updates) × (update_after header memory row value ≡ updating) × Passes (update_checks header memory row value)
        says = told (Some moving) moves

        differs : eqb old_value_lem value ≡ false
        differs = go (eqb old_value_lem value) says.0
          where
            go : (t : Bool) → Some moving ≡ cond t None (Some (moves_in header memory old_value_lem value row)) → t ≡ false
            go true e = cc
            go false e = refl

        same : moving ≡ moves_in header memory old_value_lem value row
        same = let e = rw differs at says.0 in cc

        is_sizes : moving.sizes ≡ sizes_of header
        is_sizes = rw same refl

        enters : Enters (length words) (length fences) header update_own (sizes_of header)
        enters = passes_enters (length words) (length fences) header update_own says.2

        both : (whole (sizes_of header) words old_value_lem ≡ true) × (whole (sizes_of header) words value ≡ true)
        both = go (whole (sizes_of header) words old_value_lem) (whole (sizes_of header) words value) (rw differs at enters.passes.1.1.1.1.0)
          where
            go : (one other : Bool) → (true && not (one && other)) ≡ false → (one ≡ true) × (other ≡ true)
            go true true e = (refl, refl)
            go true false e = (refl, sym e)
            go false other e = (sym e, cc)

        row_below : row < header.rows
        row_below = omega (arith, leb-false header.issued row enters.passes.1.0, (numbers enters.planned).few_issued)

        pub old_asks : Asks moving.sizes moving.old row moving.old_merges
        old_asks =
            rw same (asks enters.planned old_value_lem row _ (old_below enters.passes.1.1.1.0) row_below both.0 refl)

        new_asks : Asks (sizes_of header) value row moving.new_merges
        new_asks =
            asks enters.planned value row moving.new_merges (leb-false header.values value enters.passes.0) row_below both.1 (rw same refl)

        -- ---- after the first flip

        module _ (half : List ℕ) (half-fences : List Fence) (long : length half ≡ length words) (many : length half-fences ≡ length fences)
            (flips : memory_of half half-fences ≡ flipped_in moving.sizes memory moving.old row) where
          half_is : half ≡ flipped_words (sizes_of header) words old_value_lem row
          unfolding flipped_in
          half_is = rw same at (ap (λ (m : Memory). m.words) flips)

          puts : Puts (sizes_of header) words old_value_lem (flipped (sizes_of header) row (block_at (sizes_of header) words old_value_lem))
              (flipped_words (sizes_of header) words old_value_lem row)
          puts =
              let inside = rw same at old_asks in
              flipped_puts (sizes_of header) inside.0.limits words old_value_lem inside.0.inside both.0 row inside.2

          apart : old_value_lem ≡ value → ⊥
          apart = eqb-false old_value_lem value differs

          pub second_asks : Fenced moving.sizes (length half) (length half-fences) value × (whole moving.sizes half value ≡ true) × (row < moving.sizes.rows)
              × (moving.new_merges ≡ merges_in moving.sizes half value row)
          second_asks = (
            rw (is_sizes, long, many) new_asks.0,
            rw (is_sizes, half_is, whole_other puts value apart) both.1,
            rw is_sizes new_asks.2,
            rw (is_sizes, half_is, merges_other puts value row apart) new_asks.3,
          )

          pub update-done : (left : List ℕ) (remade : List Fence) → memory_of left remade ≡ flipped_in moving.sizes (memory_of half half-fences) value row
              → (changed : Changed) → changed ≡ done_with header 0 → Leaves (update_after header memory row value) changed left remade
          update-done left remade more changed gives =
              made_leaves header 0 moved (update_after header memory row value) (says.1 ∙ rw differs refl) changed gives left remade
              (rw (flips, same) at more)
