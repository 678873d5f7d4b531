-- What a call that changes rows leaves where it is refused and where it is done. Assumes nothing.
use mathlib.Core.Path.{◌≡◌, refl}
use mathlib.Core.List.{List}
use Prim.Native.Nat.{ℕ}
use Rattle.answers.specs.declared.Refusal.{Refusal}
use Rattle.block_read.specs.declared.fence.Fence.{Fence}
use Rattle.memory.specs.Inner.{refused_by, done_with}
use Rattle.memory.specs.Memory.{Memory, memory_of}
use Rattle.memory.specs.Outcomes.{After, made, Leaves}
use Rattle.memory.specs.declared.header.Header.{Header}
use Rattle.memory.specs.declared.header.Changed.{Changed}
use Rattle.memory.proofs.Deciding.{refused_change}

-- refused: nothing is changed
pub refused_leaves : (header : Header) (words : List ℕ) (fences : List Fence) (refusal : Refusal) (after : After)
    → after ≡ refused_change header (memory_of words fences) refusal
    → (changed : Changed) → changed ≡ refused_by header refusal → Leaves after changed words fences
refused_leaves header words fences refusal after is changed gives =
    rw (is, gives) (record { answers = refl; gives = refl; leaves = refl; keeps = refl })

-- made: the words and the fences are those of the memory
pub made_leaves : (header : Header) (count : ℕ) (memory : Memory) (after : After) → after ≡ made count header memory
    → (changed : Changed) → changed ≡ done_with header count
    → (left : List ℕ) (remade : List Fence) → memory_of left remade ≡ memory → Leaves after changed left remade
made_leaves header count memory after is changed gives left remade same =
    rw (is, gives, ← same) (record { answers = refl; gives = refl; leaves = refl; keeps = refl })
