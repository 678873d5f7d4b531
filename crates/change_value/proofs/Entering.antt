-- What the entry of a call on a value whose lists are to be whole says where it is ready. Assumes nothing.
use Rattle.std.specs.Prelude.{Ok}
use mathlib.Core.Path.{◌≡◌}
use mathlib.Core.Bool.{true, not}
use mathlib.Core.List.{List, [], ◌∷◌}
use Prim.Native.Nat.{ℕ, ◌<◌}
use lib.ListN.{length}
use borrow.Author.Tests.{leb-false, not-false}
use Rattle.answers.specs.Outcome.{◌when◌}
use Rattle.answers.specs.declared.Refusal.TheVariants.{Damaged}
use Rattle.blocks.specs.declared.sizes.Sizes.{Sizes}
use Rattle.memory.specs.Entry.{bad_value}
use Rattle.memory.specs.Inner.{Planned}
use Rattle.memory.specs.Memory.{sizes_of}
use Rattle.memory.specs.declared.header.Header.{Header}
use Rattle.memory.proofs.Deciding.{ready_enters}
use Rattle.change_value.specs.Change.{whole}
use Rattle.change_value.specs.Inner.{entered_whole}

-- the sizes are those of a header within its limits whose memory is lent, the value is below d, and its lists are whole
pub record EntersWhole (words : List ℕ) (fences : ℕ) (header : Header) (value : ℕ) (sizes : Sizes) : Type 0 where
  pub planned : Planned header sizes (length words) fences
  pub below : value < header.values
  pub are_whole : whole sizes words value ≡ true

-- THEOREM: what it says that the entry is ready
pub ready_whole : (words : List ℕ) (fences : ℕ) (header : Header) (value : ℕ) (sizes : Sizes) → Ok sizes ≡ entered_whole words fences header value
    → EntersWhole words fences header value sizes
unfolding entered_whole
ready_whole words fences header value sizes ready =
    let checks = bad_value header value ∷ Damaged when not (whole (sizes_of header) words value) ∷ [] in
    let enters = ready_enters (length words) fences header checks sizes ready in
    record {
      planned = enters.planned;
      below = leb-false header.values value enters.passes.0;
      are_whole = rw enters.planned.planned (not-false (whole (sizes_of header) words value) enters.passes.1.0);
    }
