-- What the code of a call promises is what `obey` says, and so the history theorem holds of the code. Assumes nothing.
use mathlib.Core.Path.{◌≡◌, refl, ◌∙◌, ap, sym}
use mathlib.Core.List.{List, [], ◌∷◌}
use Prim.Native.Nat.{ℕ}
use Rattle.answers.specs.Numbers.{Paper}
use Rattle.answers.specs.Outcome.{Outcome, Gives}
use Rattle.memory.specs.Outcomes.{After, Leaves}
use Rattle.index.specs.Calls.{load_after, query_outcome, insert_after, update_after, delete_after, merge_after, dump_outcome, audit_outcome}
use Rattle.history.specs.Calls.{Call, Load, Query, Value, Insert, Update, Delete, Merge, Dump, Audit, Index, index_of, changing, answering, finding, obey}
use Rattle.history.specs.Calls.{last_accepted, replied, step, run}
use Rattle.history.specs.History.{index_after}
use Rattle.history.specs.Promises.{Left, Written, Given, Promised, leaving, giving, reply_of, Made, KeptOn, made_reply, made_run, AllKept, calls_of, CodeHistory}
use Rattle.history.proofs.Refused.{audit_output}
use Rattle.history.proofs.Theorem.{history}

-- a change that kept its promise
leaving_is : (after : After) (left : Left) → Leaves after left.changed left.words left.fences → leaving left ≡ changing after
leaving_is after left kept = rw (kept.answers, kept.gives, kept.leaves, kept.keeps) refl

-- an answer that kept its promise
giving_is : (index : Index) (outcome : Outcome) (written : Written) → Gives outcome written.answer written.out → giving index written ≡ answering index outcome
giving_is index outcome written kept = rw (kept.answers, kept.leaves) refl

-- THEOREM: what a call promises is what `obey` says
pub promised_obeys : (index : Index) (call : Call) (given : Given call) → Promised index call given → reply_of index call given ≡ obey index call
promised_obeys index (Load rows values threshold spacing column) given kept =
    leaving_is (load_after rows values threshold spacing column index.memory) given kept
promised_obeys index (Query value out) given kept = giving_is index (query_outcome index.header index.memory value out) given kept
promised_obeys index (Value row) given kept = ap (finding index) kept
promised_obeys index (Insert value) given kept = leaving_is (insert_after index.header index.memory value) given kept
promised_obeys index (Update row value) given kept = leaving_is (update_after index.header index.memory row value) given kept
promised_obeys index (Delete row) given kept = leaving_is (delete_after index.header index.memory row) given kept
promised_obeys index (Merge value) given kept = leaving_is (merge_after index.header index.memory value) given kept
promised_obeys index (Dump out) given kept = giving_is index (dump_outcome index.header index.memory out) given kept
promised_obeys index Audit given kept =
    giving_is index (audit_outcome index.header index.memory) (record { answer = given; out = [] })
    (record { answers = kept; leaves = sym (audit_output index.header index.memory) })

-- ---- calls made one after another

made-step : (index : Index) (made : Made) → KeptOn index made → replied index (made_reply index made) ≡ step index made.call
made-step index made kept = ap (replied index) (promised_obeys index made.call made.given kept)

-- THEOREM: calls that kept their promises leave the index that `run` says
pub made-run : (calls : List Made) (index : Index) → AllKept index calls → made_run index calls ≡ run index (calls_of calls)
made-run [] index kept = refl
made-run (made ∷ more) index kept =
    made-run more (replied index (made_reply index made)) kept.1 ∙ ap (λ (next : Index). run next (calls_of more)) (made-step index made kept.0)

-- an accepted load that kept its promise leaves the index that the history begins with
begins : (index : Index) (after : After) (load : Left) → Leaves after load.changed load.words load.fences → after.answer.number ≡ 0
    → replied index (leaving load) ≡ index_after after
unfolding replied
begins index after load kept accepted =
    ap (replied index) (leaving_is after load kept)
    ∙ ap (λ (number : ℕ). index_of (last_accepted number after.header index.header) after.memory) accepted

-- THE HISTORY THEOREM of the code
pub code_history : CodeHistory
code_history index rows values threshold spacing column load loaded ok calls kept next keeps =
    let after = load_after rows values threshold spacing column index.memory in
    let accepted = sym (ap (λ (paper : Paper). paper.number) loaded.answers) ∙ ok in
    let start = replied index (leaving load) in
    let now : made_run start calls ≡ run (index_after after) (calls_of calls) =
    made-run calls start kept ∙ ap (λ (first : Index). run first (calls_of calls)) (begins index after load loaded accepted) in
    let good = rw (← now) at ((history rows values threshold spacing column index.memory accepted (calls_of calls)).1 next.call) in
    rw (promised_obeys (made_run start calls) next.call next.given keeps)
    (record { says = good.says; writes = good.writes; opens = good.opens })
