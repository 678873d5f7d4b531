-- Document 01, "How tightly each call is bound": any two outcomes that a call's promise allows are equal. Assumes nothing.
use Rattle.std.specs.Prelude.{Result}
use mathlib.Core.Path.{◌≡◌, sym, ap₂, ◌∙◌}
use mathlib.Core.List.{List}
use Prim.Native.Nat.{ℕ}
use Rattle.answers.specs.Outcome.{Outcome, Gives}
use Rattle.answers.proofs.OneToOne.{one_to_one, gives_one}
use Rattle.memory.specs.Memory.{Memory}
use Rattle.memory.specs.Outcomes.{After, Leaves}
use Rattle.memory.specs.Reading.{value_paper}
use Rattle.index.specs.Calls.{value_outcome, query_outcome, dump_outcome, audit_outcome}
use Rattle.index.specs.Calls.{load_after, merge_after, insert_after, delete_after, update_after}
use Rattle.memory.specs.declared.header.Header.{Header}
use Rattle.block_read.specs.declared.fence.Fence.{Fence}
use Rattle.memory.specs.declared.header.Changed.{Changed}
use Rattle.memory.specs.declared.row.Value.{Value}
use Rattle.index.proofs.ValuePapers.{value-one_to_one}
use Rattle.answers.specs.declared.Refusal.{Refusal}

-- ---- one outcome of each kind of promise

-- the promise of a call with an output
abbrev pub OneOutput : Outcome → Type 0
OneOutput outcome = (a b : Result ℕ Refusal) (out other : List ℕ) → Gives outcome a out → Gives outcome b other → (a ≡ b) × (out ≡ other)

-- the promise of a change
abbrev pub OneChange : After → Type 0
OneChange after =
    (a b : Changed) (words others : List ℕ) (fences records : List Fence) → Leaves after a words fences → Leaves after b others records
    → (a ≡ b) × (words ≡ others) × (fences ≡ records)

one-change : (after : After) → OneChange after
one-change after a b words others fences records l m = (
  ap₂ (λ (header : Header) (answer : Result ℕ Refusal). record { header = header; answer = answer })
      (l.gives ∙ sym m.gives) (one_to_one a.answer b.answer (l.answers ∙ sym m.answers)),
  l.leaves ∙ sym m.leaves,
  l.keeps ∙ sym m.keeps,
)

-- ---- the calls

module _ (header : Header) (memory : Memory) where
  pub one_query : (value : ℕ) (out : List ℕ) → OneOutput (query_outcome header memory value out)
  one_query value out = gives_one (query_outcome header memory value out)

  pub one_dump : (out : List ℕ) → OneOutput (dump_outcome header memory out)
  one_dump out = gives_one (dump_outcome header memory out)

  pub one_audit : (a b : Result ℕ Refusal) (out other : List ℕ) → Gives (audit_outcome header memory) a out → Gives (audit_outcome header memory) b other → a ≡ b
  one_audit a b out other g h = (gives_one (audit_outcome header memory) a b out other g h).0

  pub one_value : (row : ℕ) (a b : Value) → value_paper a ≡ value_outcome header memory row → value_paper b ≡ value_outcome header memory row → a ≡ b
  one_value row a b p q = value-one_to_one a b (p ∙ sym q)

  pub one_merge : (value : ℕ) → OneChange (merge_after header memory value)
  one_merge value = one-change (merge_after header memory value)

  pub one_insert : (value : ℕ) → OneChange (insert_after header memory value)
  one_insert value = one-change (insert_after header memory value)

  pub one_delete : (row : ℕ) → OneChange (delete_after header memory row)
  one_delete row = one-change (delete_after header memory row)

  pub one-update : (row value : ℕ) → OneChange (update_after header memory row value)
  one-update row value = one-change (update_after header memory row value)

pub one_load : (rows values threshold spacing : ℕ) (column : List ℕ) (memory : Memory) → OneChange (load_after rows values threshold spacing column memory)
one_load rows values threshold spacing column memory = one-change (load_after rows values threshold spacing column memory)
