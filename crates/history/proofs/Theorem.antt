-- Demand 3: from an accepted load, after any list of calls, the index and the plain column agree, and every next call is good. Assumes nothing.
use mathlib.Core.Path.{◌≡◌, refl}
use mathlib.Core.List.{List, [], ◌∷◌}
use lib.ListN.{replicate}
use Rattle.blocks.specs.Sizes.{fences_for}
use Rattle.memory.specs.Memory.{Memory, memory_of, limits, lent}
use Rattle.memory.specs.Fences.{no_fence}
use Rattle.index.specs.Calls.{load_after}
use Rattle.history.specs.Calls.{Call, Load, Query, Value, Insert, Update, Delete, Merge, Dump, Audit, Index, step, run}
use Rattle.history.specs.Plain.{Plain, plainly, plain_run}
use Rattle.history.specs.History.{Agrees, Good, History}
use Rattle.history.proofs.Agreeing.{over, under_header}
use Rattle.history.proofs.AnsweringAgrees.{query_good, dump_good, audit_good}
use Rattle.history.proofs.DeleteAgrees.{delete_good}
use Rattle.history.proofs.InsertAgrees.{insert_good}
use Rattle.history.proofs.LoadAgrees.{load_agrees, load_good}
use Rattle.history.proofs.MergeAgrees.{merge_good}
use Rattle.history.proofs.UpdateAgrees.{update_good}
use Rattle.history.proofs.ValueAgrees.{value_good}

-- under the column's header
good_over : (call : Call) (plain : Plain) (memory : Memory) → Agrees (over plain memory) plain → Good (over plain memory) plain call
good_over (Load rows values threshold spacing column) plain memory agrees = load_good rows values threshold spacing column plain memory agrees
good_over (Query value out) plain memory agrees = query_good plain memory agrees value out
good_over (Value row) plain memory agrees = value_good plain memory agrees row
good_over (Insert value) plain memory agrees = insert_good plain memory agrees value
good_over (Update row value) plain memory agrees = update_good plain memory agrees row value
good_over (Delete row) plain memory agrees = delete_good plain memory agrees row
good_over (Merge value) plain memory agrees = merge_good plain memory agrees value
good_over (Dump out) plain memory agrees = dump_good plain memory agrees out
good_over Audit plain memory agrees = audit_good plain memory agrees

-- THEOREM: every call on an index that agrees with a column is good
pub call_good : (call : Call) (index : Index) (plain : Plain) → Agrees index plain → Good index plain call
call_good call index plain agrees = under_header plain (λ (index : Index). Good index plain call) (good_over call plain) index agrees

-- and after any calls both agree again
pub run_agrees : (calls : List Call) (index : Index) (plain : Plain) → Agrees index plain → Agrees (run index calls) (plain_run plain calls)
run_agrees [] index plain agrees = agrees
run_agrees (call ∷ calls) index plain agrees = run_agrees calls (step index call) (plainly plain call).next (call_good call index plain agrees).agrees

-- THE HISTORY THEOREM
pub history : History
history rows values threshold spacing column memory accepted calls =
    let agrees = run_agrees calls _ _ (load_agrees rows values threshold spacing column memory accepted) in
    (agrees, λ call. call_good call _ _ agrees)

-- there are accepted loads: of one row, into the least memory that holds it
pub load_accepted : (load_after 1 1 1 1 (0 ∷ []) (memory_of (replicate 6 0) (replicate 1 no_fence))).answer.number ≡ 0
unfolding load_after limits lent fences_for
load_accepted = refl
