-- The contracts of the calls in index/src, as the checker has them: each asks nothing, and promises just what specs/Promises.antt says of the call, on
-- the index of the header and the memory that it is lent. Assumes nothing.
use Rattle.std.specs.Prelude.{Result}
use mathlib.Core.Path.{◌≡◌, refl}
use mathlib.Core.List.{List}
use Prim.Native.Nat.{ℕ}
use seplogic.Ra.Ura.{Ura}
use base.Logic.{SProp, emp}
use prog.Memory.{Memory as Machine}
use prog.Routine.{Routine}
use types.Logic.{Logic}
use contract.Lifetimes.{Lfts}
use contract.Monad.{Fun, fact}
use denote.Triple.Clauses.{AtExit}
use denote.Triple.Entry.{Args, Res}
use Rattle.block_read.specs.declared.fence.Fence.{Fence}
use Rattle.memory.specs.Memory.{memory_of}
use Rattle.memory.specs.declared.header.Changed.{Changed}
use Rattle.memory.specs.declared.header.Header.{Header}
use Rattle.index.specs.contracts.answering.query as query
use Rattle.index.specs.contracts.answering.value as value
use Rattle.index.specs.contracts.auditing.audit as audit
use Rattle.index.specs.contracts.changing.delete as delete
use Rattle.index.specs.contracts.changing.insert as insert
use Rattle.index.specs.contracts.changing.merge as merge
use Rattle.index.specs.contracts.changing.update as update
use Rattle.index.specs.contracts.dumping.dump as dump
use Rattle.index.specs.contracts.loading.load as load
use Rattle.history.specs.Calls.{Load, Query, Value, Insert, Update, Delete, Merge, Dump, Audit, Index, index_of}
use Rattle.history.specs.Promises.{Left, Written, Promised}
use Rattle.answers.specs.declared.Refusal.{Refusal}

-- the index of a header, with the words and fences lent
abbrev lent_to : Header → List ℕ → List Fence → Index
lent_to header words fences = index_of header (memory_of words fences)

-- what is left in the words and fences, or in an output
abbrev left_in : Changed → List ℕ → List Fence → Left
left_in changed words fences = record { changed = changed; words = words; fences = fences }

abbrev written_in : Result ℕ Refusal → List ℕ → Written
written_in answer out = record { answer = answer; out = out }

module _ {M : Type 1} {𝓤 : Ura M} (𝓛 : Logic 𝓤) (mem : Machine → SProp 𝓤) (run : Routine → Fun 𝓤) where
  -- THEOREM: Load, which takes no header
  module _ (κs : Lfts 3) (args : Args load.signature κs) (r : Res load.signature κs) (ends : AtExit load.ended κs) (header : Header) where
    pub load_promises : ((load.clauses 𝓛 mem run κs args).requires tt ≡ emp 𝓤)
        × ((load.clauses 𝓛 mem run κs args).ensures tt r ends
        ≡ fact 𝓤
        (Promised (lent_to header args.0.now args.1.0.now)
        (Load args.1.1.1.0 args.1.1.1.1.0 args.1.1.1.1.1.0 args.1.1.1.1.1.1.0 args.1.1.0.now)
        (left_in r ends.0.now ends.1.0.now)))
    load_promises = (refl, refl)

  -- THEOREM: Query
  module _ (κs : Lfts 3) (args : Args query.signature κs) (r : Res query.signature κs) (ends : AtExit query.ended κs) where
    pub query_promises : ((query.clauses 𝓛 mem run κs args).requires tt ≡ emp 𝓤)
        × ((query.clauses 𝓛 mem run κs args).ensures tt r ends
        ≡ fact 𝓤
        (Promised (lent_to args.1.1.1.0 args.0.now args.1.0.now) (Query args.1.1.1.1.0 args.1.1.0.now) (written_in r ends.1.1.0.now)))
    query_promises = (refl, refl)

  -- THEOREM: Value
  module _ (κs : Lfts 2) (args : Args value.signature κs) (r : Res value.signature κs) (ends : AtExit value.ended κs) where
    pub value_promises : ((value.clauses 𝓛 mem run κs args).requires tt ≡ emp 𝓤)
        × ((value.clauses 𝓛 mem run κs args).ensures tt r ends
        ≡ fact 𝓤 (Promised (lent_to args.1.1.0 args.0.now args.1.0.now) (Value args.1.1.1.0) r))
    value_promises = (refl, refl)

  -- THEOREM: Insert
  module _ (κs : Lfts 2) (args : Args insert.signature κs) (r : Res insert.signature κs) (ends : AtExit insert.ended κs) where
    pub insert_promises : ((insert.clauses 𝓛 mem run κs args).requires tt ≡ emp 𝓤)
        × ((insert.clauses 𝓛 mem run κs args).ensures tt r ends
        ≡ fact 𝓤 (Promised (lent_to args.1.1.0 args.0.now args.1.0.now) (Insert args.1.1.1.0) (left_in r ends.0.now ends.1.0.now)))
    insert_promises = (refl, refl)

  -- THEOREM: Update
  module _ (κs : Lfts 2) (args : Args update.signature κs) (r : Res update.signature κs) (ends : AtExit update.ended κs) where
    pub update_promises : ((update.clauses 𝓛 mem run κs args).requires tt ≡ emp 𝓤)
        × ((update.clauses 𝓛 mem run κs args).ensures tt r ends
        ≡ fact 𝓤
        (Promised (lent_to args.1.1.0 args.0.now args.1.0.now) (Update args.1.1.1.0 args.1.1.1.1.0) (left_in r ends.0.now ends.1.0.now)))
    update_promises = (refl, refl)

  -- THEOREM: Delete
  module _ (κs : Lfts 2) (args : Args delete.signature κs) (r : Res delete.signature κs) (ends : AtExit delete.ended κs) where
    pub delete_promises : ((delete.clauses 𝓛 mem run κs args).requires tt ≡ emp 𝓤)
        × ((delete.clauses 𝓛 mem run κs args).ensures tt r ends
        ≡ fact 𝓤 (Promised (lent_to args.1.1.0 args.0.now args.1.0.now) (Delete args.1.1.1.0) (left_in r ends.0.now ends.1.0.now)))
    delete_promises = (refl, refl)

  -- THEOREM: Merge
  module _ (κs : Lfts 2) (args : Args merge.signature κs) (r : Res merge.signature κs) (ends : AtExit merge.ended κs) where
    pub merge_promises : ((merge.clauses 𝓛 mem run κs args).requires tt ≡ emp 𝓤)
        × ((merge.clauses 𝓛 mem run κs args).ensures tt r ends
        ≡ fact 𝓤 (Promised (lent_to args.1.1.0 args.0.now args.1.0.now) (Merge args.1.1.1.0) (left_in r ends.0.now ends.1.0.now)))
    merge_promises = (refl, refl)

  -- THEOREM: Dump
  module _ (κs : Lfts 3) (args : Args dump.signature κs) (r : Res dump.signature κs) (ends : AtExit dump.ended κs) where
    pub dump_promises : ((dump.clauses 𝓛 mem run κs args).requires tt ≡ emp 𝓤)
        × ((dump.clauses 𝓛 mem run κs args).ensures tt r ends
        ≡ fact 𝓤 (Promised (lent_to args.1.1.1.0 args.0.now args.1.0.now) (Dump args.1.1.0.now) (written_in r ends.1.1.0.now)))
    dump_promises = (refl, refl)

  -- THEOREM: Audit
  module _ (κs : Lfts 2) (args : Args audit.signature κs) (r : Res audit.signature κs) (ends : AtExit audit.ended κs) where
    pub audit_promises : ((audit.clauses 𝓛 mem run κs args).requires tt ≡ emp 𝓤)
        × ((audit.clauses 𝓛 mem run κs args).ensures tt r ends ≡ fact 𝓤 (Promised (lent_to args.1.1.0 args.0.now args.1.0.now) Audit r))
    audit_promises = (refl, refl)
