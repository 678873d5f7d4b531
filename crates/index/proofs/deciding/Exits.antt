-- The exits of the decisions: each is the one that the checks, in their order, call for. Assumes nothing.
use Rattle.std.specs.Prelude.{Result, Option, Ok, Err, Some, None}
use mathlib.Core.Path.{◌≡◌, refl, sym, ap, ◌∙◌}
use mathlib.Core.Bool.{and-false, Bool, true, false, not, cond, ◌&&◌, ◌||◌}
use mathlib.Core.List.{List, [], ◌∷◌}
use Prim.Native.Nat.{ℕ, ◌+◌, ◌*◌, ◌<◌, ◌≤◌}
use native.Mathlib.Omega.{arith}
use lib.Dec.{ltb, eqb}
use lib.ListN.{length}
use borrow.Author.Tests.{leb-false, ltb-true, eqb-false, ne_eqb}
use Rattle.answers.specs.Outcome.{Check, ◌when◌}
use Rattle.answers.specs.declared.Refusal.{Refusal}
use Rattle.answers.specs.declared.Refusal.TheVariants.{Damaged, Gone}
use Rattle.blocks.specs.Sizes.{block_size}
use Rattle.blocks.specs.Inner.{Limits}
use Rattle.blocks.specs.Whole.{whole_lists}
use Rattle.blocks.specs.declared.sizes.Sizes.{Sizes}
use Rattle.block_read.specs.declared.fence.Fence.{Fence}
use Rattle.block_change.specs.Change.{merge_due}
use Rattle.block_change.specs.Inner.{flip_for}
use Rattle.memory.specs.Entry.{bad_value, missing, full}
use Rattle.memory.specs.Inner.{Planned, decided, entered_insert, entered_row, entered_update, holder_of, legible_holder}
use Rattle.memory.specs.Memory.{Memory, memory_of, sizes_of, block_at}
use Rattle.memory.specs.Reading.{row_of, is_damaged, is_deleted, is_free}
use Rattle.memory.specs.declared.header.Header.{Header}
use Rattle.memory.specs.declared.row.Row.{Row}
use Rattle.memory.specs.declared.row.Unreadable.{Unreadable}
use Rattle.memory.proofs.Deciding.{Enters, ready_enters, decided_refuses, stop_refused, ready_goes_on}
use Rattle.memory.proofs.Places.{numbers, fenced}
use Rattle.memory.proofs.RowLaws.{row-value}
use Rattle.change_value.specs.Change.{whole, merges_in}
use Rattle.index.specs.Calls.{old_value}
use Rattle.index.specs.Inner.{flips_in, insert_decision, delete_decision, moves_in, update_decision}
use Rattle.index.specs.declared.deciding.Flipping.{Flipping}
use Rattle.index.specs.declared.deciding.Moving.{Moving}

-- ---- what a row that was read, and the lists of a value, answer

module _ (row : Row) where
  -- what is said of the holder by the tests of a row: whether it is damaged, and whether no value has it
  abbrev said : Bool → Bool → Result (Option ℕ) Unreadable
  said damaged none = cond damaged (Err (record {})) (Ok (cond none None (Some row.value)))

  unreadable_says : {reason : Unreadable} → Err reason ≡ legible_holder row → is_damaged row ≡ true
  unfolding legible_holder holder_of
  unreadable_says {reason} = go (is_damaged row)
    where
      go : (t : Bool) → Err reason ≡ said t (is_deleted row) → t ≡ true
      go true e = refl
      go false e = cc

  missing_says : Ok None ≡ legible_holder row → (is_damaged row ≡ false) × (is_deleted row ≡ true)
  unfolding legible_holder holder_of
  missing_says = go (is_damaged row) (is_deleted row)
    where
      go : (t none : Bool) → Ok None ≡ said t none → (t ≡ false) × (none ≡ true)
      go true none e = (cc, cc)
      go false true e = (refl, refl)
      go false false e = (cc, cc)

  found_says : (value : ℕ) → Ok (Some value) ≡ legible_holder row
      → (is_damaged row ≡ false) × (is_deleted row ≡ false) × (value ≡ row.value)
  unfolding legible_holder holder_of
  found_says value = go (is_damaged row) (is_deleted row)
    where
      go : (t none : Bool) → Ok (Some value) ≡ said t none → (t ≡ false) × (none ≡ false) × (value ≡ row.value)
      go true none e = (cc, cc, cc)
      go false true e = (cc, cc, cc)
      go false false e = (refl, refl, cc)

  -- row n is free, or it is not
  free_says : Ok None ≡ legible_holder row → is_free row ≡ true
  free_says free = let says = missing_says free in go row.damaged (ltb 1 row.holders) says.0 says.1
    where
      go : (damaged more : Bool) → (damaged || more) ≡ false → is_deleted row ≡ true → (not damaged && is_deleted row) ≡ true
      go true more e none = cc
      go false more e none = none

  damaged_says : {reason : Unreadable} → Err reason ≡ legible_holder row → is_free row ≡ false
  damaged_says damage = go row.damaged (unreadable_says damage)
    where
      go : (damaged : Bool) → (damaged || ltb 1 row.holders) ≡ true → (not damaged && is_deleted row) ≡ false
      go true e = refl
      go false e = ne_eqb row.holders 0 (λ none. omega (arith, ltb-true 1 row.holders e))

  held_says : (value : ℕ) → Ok (Some value) ≡ legible_holder row → is_free row ≡ false
  held_says value held = rw (found_says value held).1 (and-false (not row.damaged))

module _ (sizes : Sizes) (words : List ℕ) (value row : ℕ) where
  faulty_says : None ≡ flip_for sizes row (block_at sizes words value) → whole sizes words value ≡ false
  unfolding flip_for whole
  faulty_says = go (whole_lists sizes (block_at sizes words value))
    where
      go : (t : Bool) → None ≡ cond t (Some (merge_due sizes row (block_at sizes words value))) None → t ≡ false
      go true e = cc
      go false e = refl

  merging_says : (merges : Bool) → Some merges ≡ flip_for sizes row (block_at sizes words value)
      → (whole sizes words value ≡ true) × (merges ≡ merges_in sizes words value row)
  unfolding flip_for whole merges_in
  merging_says merges = go (whole_lists sizes (block_at sizes words value))
    where
      go : (t : Bool) → Some merges ≡ cond t (Some (merge_due sizes row (block_at sizes words value))) None
          → (t ≡ true) × (merges ≡ merge_due sizes row (block_at sizes words value))
      go true e = (refl, cc)
      go false e = (cc, cc)

module _ (words : List ℕ) (fences : List Fence) (header : Header) where
  abbrev memory : Memory
  memory = memory_of words fences

  -- what deciding a flip asks
  abbrev Asks : Sizes → ℕ → ℕ → Type 0
  Asks sizes value row = Limits sizes × (value * block_size sizes + block_size sizes ≤ length words) × (row < sizes.rows)

  asks : {sizes : Sizes} → Planned header sizes (length words) (length fences) → (value row : ℕ) → value < header.values → row < header.rows
      → Asks sizes value row
  asks is value row below issued = let inside = fenced is value below in (inside.limits, inside.inside, rw is.planned issued)

  -- ---- Insert

  module _ (value : ℕ) where
    abbrev next : Row
    next = row_of header memory header.issued

    abbrev insert_checks_lem : List Check
    insert_checks_lem = bad_value header value ∷ full header ∷ []

    abbrev insert_behind : List Check
    insert_behind = Damaged when not (is_free next) ∷ Damaged when not (whole (sizes_of header) words value) ∷ []

    abbrev inserts : Flipping
    inserts = flips_in header memory value header.issued

    pub insert_stops : (refusal : Refusal) → Err refusal ≡ entered_insert (length words) (length fences) header value
        → Err refusal ≡ insert_decision header memory value
    unfolding insert_decision
    insert_stops refusal stop =
        sym (stop_refused (length words) (length fences) header insert_checks_lem (decided_refuses Err (Ok inserts)) insert_behind refusal stop)

    module _ (sizes : Sizes) (ready : Ok sizes ≡ entered_insert (length words) (length fences) header value) where
      insert_enters : Enters (length words) (length fences) header insert_checks_lem sizes
      insert_enters = ready_enters (length words) (length fences) header insert_checks_lem sizes ready

      pub insert_planned : Planned header sizes (length words) (length fences)
      insert_planned = insert_enters.planned

      insert_goes_on : insert_decision header memory value ≡ decided Err insert_behind (Ok inserts)
      unfolding insert_decision
      insert_goes_on = ready_goes_on (length words) (length fences) header insert_checks_lem (decided_refuses Err (Ok inserts)) insert_behind sizes ready

      module _ (found : Row) (read : found ≡ next) where
        pub insert_damaged : {reason : Unreadable} → Err reason ≡ legible_holder found → Err Damaged ≡ insert_decision header memory value
        insert_damaged damage = rw (insert_goes_on, ← read, damaged_says found damage) refl

        pub insert_taken : (holder : ℕ) → Ok (Some holder) ≡ legible_holder found → Err Damaged ≡ insert_decision header memory value
        insert_taken holder held = rw (insert_goes_on, ← read, held_says found holder held) refl

        module _ (free : Ok None ≡ legible_holder found) where
          is_free_lem : is_free next ≡ true
          is_free_lem = rw read at (free_says found free)

          pub insert_asks : Asks sizes value header.issued
          insert_asks =
              asks insert_planned value header.issued (leb-false header.values value insert_enters.passes.0)
              (leb-false header.rows header.issued insert_enters.passes.1.0)

          pub insert_faulty : None ≡ flip_for sizes header.issued (block_at sizes words value) → Err Damaged ≡ insert_decision header memory value
          insert_faulty faulty =
              rw (insert_goes_on, is_free_lem, rw insert_planned.planned at (faulty_says sizes words value header.issued faulty)) refl

          pub insert_flips : (merges : Bool) → Some merges ≡ flip_for sizes header.issued (block_at sizes words value)
              → Ok (record { sizes = sizes; value = value; merges = merges }) ≡ insert_decision header memory value
          insert_flips merges merging =
              let says = rw insert_planned.planned at (merging_says sizes words value header.issued merges merging) in
              rw (insert_goes_on, is_free_lem, says.0, says.1, insert_planned.planned) refl

  -- ---- a row that is to be changed: it is read, and its holder found

  module _ (row : ℕ) where
    abbrev held : Row
    held = row_of header memory row

    abbrev holder_checks : List Check → List Check
    holder_checks rest = Damaged when is_damaged held ∷ Gone when is_deleted held ∷ rest

    module _ (found : Row) (read : found ≡ held) {A : Type 0} (refused : Refusal → A) (rest : List Check) (done : A) where
      row_unreadable : {reason : Unreadable} → Err reason ≡ legible_holder found → decided refused (holder_checks rest) done ≡ refused Damaged
      row_unreadable unreadable = rw (← read, unreadable_says found unreadable) refl

      row-missing : Ok None ≡ legible_holder found → decided refused (holder_checks rest) done ≡ refused Gone
      row-missing missing = let says = missing_says found missing in rw (← read, says.0, says.1) refl

      row_passes : (value : ℕ) → Ok (Some value) ≡ legible_holder found → decided refused (holder_checks rest) done ≡ decided refused rest done
      row_passes value holder = let says = found_says found value holder in rw (← read, says.0, says.1) refl

    module _ (found : Row) (read : found ≡ held) (value : ℕ) (holder : Ok (Some value) ≡ legible_holder found) where
      -- the holder is the row's old value, which is below d
      is_old : value ≡ old_value header memory row
      is_old = rw read at (found_says found value holder).2

      old_below : value < header.values
      old_below = rw is_old (row-value header memory row (some held.holders (eqb-false held.holders 0 (rw read at (found_says found value holder).1))))
        where
          some : (holders : ℕ) → (holders ≡ 0 → ⊥) → 0 < holders
          some holders h = omega (arith, h)

    -- ---- Delete

    abbrev delete_checks_lem : List Check
    delete_checks_lem = missing header row ∷ []

    abbrev delete_behind : ℕ → List Check
    delete_behind value = Damaged when not (whole (sizes_of header) words value) ∷ []

    abbrev deletes : Flipping
    deletes = flips_in header memory (old_value header memory row) row

    pub delete_stops : (refusal : Refusal) → Err refusal ≡ entered_row (length words) (length fences) header row
        → Err refusal ≡ delete_decision header memory row
    unfolding delete_decision
    delete_stops refusal stop =
        sym
        (stop_refused (length words) (length fences) header delete_checks_lem (decided_refuses Err (Ok deletes))
        (holder_checks (delete_behind (old_value header memory row))) refusal stop)

    module _ (sizes : Sizes) (ready : Ok sizes ≡ entered_row (length words) (length fences) header row) where
      delete_enters : Enters (length words) (length fences) header delete_checks_lem sizes
      delete_enters = ready_enters (length words) (length fences) header delete_checks_lem sizes ready

      pub delete_planned : Planned header sizes (length words) (length fences)
      delete_planned = delete_enters.planned

      delete_goes_on : delete_decision header memory row ≡ decided Err (holder_checks (delete_behind (old_value header memory row))) (Ok deletes)
      unfolding delete_decision
      delete_goes_on =
          ready_goes_on (length words) (length fences) header delete_checks_lem (decided_refuses Err (Ok deletes))
          (holder_checks (delete_behind (old_value header memory row))) sizes ready

      module _ (found : Row) (read : found ≡ held) where
        pub delete_unreadable : {reason : Unreadable} → Err reason ≡ legible_holder found → Err Damaged ≡ delete_decision header memory row
        delete_unreadable unreadable = sym (delete_goes_on ∙ row_unreadable found read Err (delete_behind (old_value header memory row)) (Ok deletes) unreadable)

        pub delete_gone : Ok None ≡ legible_holder found → Err Gone ≡ delete_decision header memory row
        delete_gone missing = sym (delete_goes_on ∙ row-missing found read Err (delete_behind (old_value header memory row)) (Ok deletes) missing)

        module _ (value : ℕ) (holder : Ok (Some value) ≡ legible_holder found) where
          by_value : delete_decision header memory row ≡ decided Err (delete_behind value) (Ok (flips_in header memory value row))
          by_value =
              delete_goes_on
              ∙ row_passes found read Err (delete_behind (old_value header memory row)) (Ok deletes) value holder
              ∙ ap (λ (v : ℕ). decided Err (delete_behind v) (Ok (flips_in header memory v row))) (sym (is_old found read value holder))

          pub delete_asks : Asks sizes value row
          delete_asks =
              asks delete_planned value row (old_below found read value holder)
              (omega (arith, leb-false header.issued row delete_enters.passes.0, (numbers delete_planned).few_issued))

          pub delete_faulty : None ≡ flip_for sizes row (block_at sizes words value) → Err Damaged ≡ delete_decision header memory row
          delete_faulty faulty = rw (by_value, rw delete_planned.planned at (faulty_says sizes words value row faulty)) refl

          pub delete_flips : (merges : Bool) → Some merges ≡ flip_for sizes row (block_at sizes words value)
              → Ok (record { sizes = sizes; value = value; merges = merges }) ≡ delete_decision header memory row
          delete_flips merges merging =
              let says = rw delete_planned.planned at (merging_says sizes words value row merges merging) in
              rw (by_value, says.0, says.1, delete_planned.planned) refl

    -- ---- Update

    module _ (value : ℕ) where
      abbrev update-checks : List Check
      update-checks = bad_value header value ∷ missing header row ∷ []

      abbrev update-behind : ℕ → List Check
      update-behind old =
          Damaged when (not (eqb old value) && not (whole (sizes_of header) words old && whole (sizes_of header) words value)) ∷ []

      abbrev updates : ℕ → Option Moving
      updates old = cond (eqb old value) None (Some (moves_in header memory old value row))

      abbrev old_value_lem : ℕ
      old_value_lem = old_value header memory row

      pub update_stops : (refusal : Refusal) → Err refusal ≡ entered_update (length words) (length fences) header row value
          → Err refusal ≡ update_decision header memory row value
      unfolding update_decision
      update_stops refusal stop =
          sym
          (stop_refused (length words) (length fences) header update-checks (decided_refuses Err (Ok (updates old_value_lem)))
          (holder_checks (update-behind old_value_lem)) refusal stop)

      module _ (sizes : Sizes) (ready : Ok sizes ≡ entered_update (length words) (length fences) header row value) where
        update_enters : Enters (length words) (length fences) header update-checks sizes
        update_enters = ready_enters (length words) (length fences) header update-checks sizes ready

        pub update_planned : Planned header sizes (length words) (length fences)
        update_planned = update_enters.planned

        update_goes_on : update_decision header memory row value ≡ decided Err (holder_checks (update-behind old_value_lem)) (Ok (updates old_value_lem))
        unfolding update_decision
        update_goes_on =
            ready_goes_on (length words) (length fences) header update-checks (decided_refuses Err (Ok (updates old_value_lem)))
            (holder_checks (update-behind old_value_lem)) sizes ready

        module _ (found : Row) (read : found ≡ held) where
          pub update_unreadable : {reason : Unreadable} → Err reason ≡ legible_holder found → Err Damaged ≡ update_decision header memory row value
          update_unreadable unreadable = sym (update_goes_on ∙ row_unreadable found read Err (update-behind old_value_lem) (Ok (updates old_value_lem)) unreadable)

          pub update_gone : Ok None ≡ legible_holder found → Err Gone ≡ update_decision header memory row value
          update_gone missing = sym (update_goes_on ∙ row-missing found read Err (update-behind old_value_lem) (Ok (updates old_value_lem)) missing)

          module _ (old : ℕ) (holder : Ok (Some old) ≡ legible_holder found) where
            by_old : update_decision header memory row value ≡ decided Err (update-behind old) (Ok (updates old))
            by_old =
                update_goes_on
                ∙ row_passes found read Err (update-behind old_value_lem) (Ok (updates old_value_lem)) old holder
                ∙ ap (λ (v : ℕ). decided Err (update-behind v) (Ok (updates v))) (sym (is_old found read old holder))

            pub update_same : eqb old value ≡ true → Ok None ≡ update_decision header memory row value
            update_same same = rw (by_old, same) refl

            module _ (differ : eqb old value ≡ false) where
              not_same : eqb old value ≡ false
              not_same = differ

              row_below : row < header.rows
              row_below = omega (arith, leb-false header.issued row update_enters.passes.1.0, (numbers update_planned).few_issued)

              pub old_asks : Asks sizes old row
              old_asks = asks update_planned old row (old_below found read old holder) row_below

              pub new_asks : Asks sizes value row
              new_asks = asks update_planned value row (leb-false header.values value update_enters.passes.0) row_below

              pub old_faulty : None ≡ flip_for sizes row (block_at sizes words old) → Err Damaged ≡ update_decision header memory row value
              old_faulty faulty =
                  rw (by_old, not_same, rw update_planned.planned at (faulty_says sizes words old row faulty)) refl

              module _ (first : Bool) (old-merging : Some first ≡ flip_for sizes row (block_at sizes words old)) where
                old_says : (whole (sizes_of header) words old ≡ true) × (first ≡ merges_in (sizes_of header) words old row)
                old_says = rw update_planned.planned at (merging_says sizes words old row first old-merging)

                pub new_faulty : None ≡ flip_for sizes row (block_at sizes words value) → Err Damaged ≡ update_decision header memory row value
                new_faulty faulty =
                    rw (by_old, not_same, old_says.0, rw update_planned.planned at (faulty_says sizes words value row faulty)) refl

                pub update_moves : (second : Bool) → Some second ≡ flip_for sizes row (block_at sizes words value)
                    → Ok (Some (record { sizes = sizes; old = old; old_merges = first; new_merges = second })) ≡ update_decision header memory row value
                update_moves second merging =
                    let new-says = rw update_planned.planned at (merging_says sizes words value row second merging) in
                    rw (by_old, not_same, old_says.0, new-says.0, old_says.1, new-says.1, update_planned.planned) refl
