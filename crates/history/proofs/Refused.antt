-- A refused call, on any index: the index, the memory and the output stay as they were. Assumes nothing.
use mathlib.Core.Path.{◌≡◌, refl, ap₂}
use mathlib.Core.Bool.{Bool, true, false, not, cond}
use mathlib.Core.List.{List, [], ◌∷◌}
use Prim.Native.Nat.{ℕ}
use native.Mathlib.Omega.{arith}
use lib.Dec.{eqb}
use Rattle.answers.specs.Outcome.{Check, ◌when◌, outcome}
use Rattle.answers.specs.declared.Refusal.TheVariants.{Damaged}
use Rattle.memory.specs.Entry.{no_header, grown}
use Rattle.memory.specs.Memory.{Memory, limits, within_limits, sizes_of, is_sound}
use Rattle.memory.specs.Outcomes.{After, made, change}
use Rattle.memory.specs.declared.header.Header.{Header}
use Rattle.change_value.specs.Change.{merged_in, flipped_in}
use Rattle.index.specs.Calls.{loaded_in, load_header, load_checks, load_after, entry_checks, query_list, query_checks, query_outcome, merge_checks, merge_after, audit_outcome}
use Rattle.index.specs.Calls.{value_outcome, bytes_of, dump_checks, dump_outcome, insert_checks, insert_after, old_value, delete_checks, delete_after, update_checks, update_after}
use Rattle.history.specs.Calls.{Call, Load, Query, Value, Insert, Update, Delete, Merge, Dump, Audit, Index, index_of, obey, replied}
use Rattle.history.specs.Corollaries.{output_of, is_load, Unchanged, RefusedUnchanged, ZerosRefused}
use Rattle.history.proofs.Matching.{last_stays}

-- what a change leaves that is refused, where it would have been accepted
record Stays (back : Header) (memory : Memory) (after : After) : Type 0 where
  pub gives : after.header ≡ back
  pub leaves : after.memory ≡ memory

change_stays : (checks : List Check) (back : Header) (memory : Memory) (after : After) → after.answer.number ≡ 0
    → ((change checks back memory after).answer.number ≡ 0 → ⊥) → Stays back memory (change checks back memory after)
change_stays [] back memory after accepted refused = absurd (refused accepted)
change_stays (refusal when true ∷ checks) back memory after accepted refused = record { gives = refl; leaves = refl }
change_stays (refusal when false ∷ checks) back memory after accepted refused = change_stays checks back memory after accepted refused

-- and what is then in the output
output_stays : (checks : List Check) (result out : List ℕ) → ((outcome checks result out).answer.number ≡ 0 → ⊥) → (outcome checks result out).output ≡ out
output_stays [] result out refused = absurd (refused refl)
output_stays (refusal when true ∷ checks) result out refused = refl
output_stays (refusal when false ∷ checks) result out refused = output_stays checks result out refused

-- a call without an output writes none
no_output : (checks : List Check) → (outcome checks [] []).output ≡ []
no_output [] = refl
no_output (refusal when true ∷ checks) = refl
no_output (refusal when false ∷ checks) = no_output checks

-- Audit
pub audit_output : (header : Header) (memory : Memory) → (audit_outcome header memory).output ≡ []
unfolding audit_outcome
audit_output header memory = no_output (entry_checks header memory (Damaged when not (is_sound header memory) ∷ []))

module _ (index : Index) (call : Call) (refused : (obey index call).said.number ≡ 0 → ⊥) where
  -- where the memory stays, so does the index
  unchanged : (obey index call).memory ≡ index.memory → (obey index call).output ≡ output_of call → (obey index call).header ≡ cond (is_load call) no_header index.header
      → Unchanged index call
  unfolding replied
  unchanged memory output header =
      record {
        index_stays = ap₂ index_of (last_stays (obey index call).said.number (obey index call).header index.header refused) memory;
        memory_stays = memory;
        output_stays = output;
        gives_back = header;
      }

-- either way of an Update is accepted
moved_accepted : (same : Bool) (header : Header) (memory other : Memory) → (cond same (made 0 header memory) (made 0 header other)).answer.number ≡ 0
moved_accepted true header memory other = refl
moved_accepted false header memory other = refl

-- THEOREM: a refused call leaves everything as it was
pub refused_unchanged : RefusedUnchanged
unfolding load_after query_outcome insert_after update_after delete_after merge_after dump_outcome
refused_unchanged index (Load rows values threshold spacing column) refused =
    let header = load_header rows values threshold spacing column in
    let stays =
    change_stays (load_checks rows values threshold spacing column index.memory) no_header index.memory
    (made 0 header (loaded_in (sizes_of header) column values index.memory)) refl refused in
    unchanged index (Load rows values threshold spacing column) refused stays.leaves refl stays.gives
refused_unchanged index (Query value out) refused =
    unchanged index (Query value out) refused refl
    (output_stays (query_checks index.header index.memory value out) (query_list index.header index.memory value) out refused) refl
refused_unchanged index (Value row) refused = unchanged index (Value row) refused refl refl refl
refused_unchanged index (Insert value) refused =
    let header = index.header in
    let stays =
    change_stays (insert_checks header index.memory value) header index.memory
    (made header.issued (grown header) (flipped_in (sizes_of header) index.memory value header.issued)) refl refused in
    unchanged index (Insert value) refused stays.leaves refl stays.gives
refused_unchanged index (Update row value) refused =
    let header = index.header in
    let old = old_value header index.memory row in
    let moved = flipped_in (sizes_of header) (flipped_in (sizes_of header) index.memory old row) value row in
    let stays =
    change_stays (update_checks header index.memory row value) header index.memory
    (cond (eqb old value) (made 0 header index.memory) (made 0 header moved)) (moved_accepted (eqb old value) header index.memory moved) refused in
    unchanged index (Update row value) refused stays.leaves refl stays.gives
refused_unchanged index (Delete row) refused =
    let header = index.header in
    let stays =
    change_stays (delete_checks header index.memory row) header index.memory
    (made 0 header (flipped_in (sizes_of header) index.memory (old_value header index.memory row) row)) refl refused in
    unchanged index (Delete row) refused stays.leaves refl stays.gives
refused_unchanged index (Merge value) refused =
    let header = index.header in
    let stays =
    change_stays (merge_checks header index.memory value) header index.memory
    (made 0 header (merged_in (sizes_of header) index.memory value)) refl refused in
    unchanged index (Merge value) refused stays.leaves refl stays.gives
refused_unchanged index (Dump out) refused =
    unchanged index (Dump out) refused refl
    (output_stays (dump_checks index.header index.memory out) (bytes_of index.header index.memory index.header.issued) out refused) refl
refused_unchanged index Audit refused = unchanged index Audit refused refl (audit_output index.header index.memory) refl

-- THEOREM: a header of zeros is refused by every call on an index
pub zeros_refused : ZerosRefused
unfolding within_limits limits query_outcome value_outcome insert_after update_after delete_after merge_after dump_outcome audit_outcome
zeros_refused memory (Load rows values threshold spacing column) other = let z : ◌≡◌ {A = ℕ} 0 1 = cc in absurd (omega arith)
zeros_refused memory (Query value out) other = refl
zeros_refused memory (Value row) other = refl
zeros_refused memory (Insert value) other = refl
zeros_refused memory (Update row value) other = refl
zeros_refused memory (Delete row) other = refl
zeros_refused memory (Merge value) other = refl
zeros_refused memory (Dump out) other = refl
zeros_refused memory Audit other = refl
