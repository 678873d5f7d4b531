-- The exits of the entry of a call on a value whose lists are to be whole. Assumes nothing.
use Rattle.std.specs.Prelude.{Result, Ok, Err, Some, None}
use mathlib.Core.Path.{◌≡◌, refl, ◌∙◌, sym}
use mathlib.Core.Bool.{Bool, true, false, not}
use mathlib.Core.List.{List, [], ◌∷◌}
use Prim.Native.Nat.{ℕ}
use lib.ListN.{length}
use borrow.Author.Tests.{leb-false}
use Rattle.answers.specs.Outcome.{◌when◌}
use Rattle.answers.specs.declared.Refusal.{Refusal}
use Rattle.answers.specs.declared.Refusal.TheVariants.{Damaged}
use Rattle.blocks.specs.Inner.{whole_of}
use Rattle.blocks.specs.declared.sizes.Sizes.{Sizes}
use Rattle.blocks.proofs.whole.Verdict.{faulty_whole, intact-whole}
use Rattle.memory.specs.Entry.{bad_value}
use Rattle.memory.specs.Inner.{Fenced, asked, entered_value}
use Rattle.memory.specs.Memory.{sizes_of, block_at}
use Rattle.memory.specs.declared.header.Header.{Header}
use Rattle.memory.proofs.Deciding.{Enters, ready_enters}
use Rattle.memory.proofs.Places.{fenced}
use Rattle.change_value.specs.Change.{whole}
use Rattle.change_value.specs.Inner.{entered_whole}

module _ (words : List ℕ) (fences : ℕ) (header : Header) (value : ℕ) (entry : Result Sizes Refusal) (enters : entry ≡ entered_value (length words) fences header value) where
  -- the whole check comes behind the checks of a value
  behind : asked entry (Damaged when not (whole (sizes_of header) words value)) ≡ entered_whole words fences header value
  unfolding entered_whole
  behind = rw enters refl

  pub stopped : (refusal : Refusal) → entry ≡ Err refusal → entry ≡ entered_whole words fences header value
  stopped refusal e = e ∙ (rw e at behind)

  module _ (sizes : Sizes) (ready : entry ≡ Ok sizes) where
    is : Enters (length words) fences header (bad_value header value ∷ []) sizes
    is = ready_enters (length words) fences header (bad_value header value ∷ []) sizes (sym ready ∙ enters)

    -- the block of the value lies inside the words
    pub inside : Fenced sizes (length words) fences value
    inside = fenced is.planned value (leb-false header.values value is.passes.0)

    verdict : (test : Bool) → whole sizes words value ≡ test → asked (Ok sizes) (Damaged when not test) ≡ entered_whole words fences header value
    verdict test e = let same : whole (sizes_of header) words value ≡ test = rw is.planned.planned at e in rw (ready, same) at behind

    pub faulty : None ≡ whole_of sizes (block_at sizes words value) → Err Damaged ≡ entered_whole words fences header value
    unfolding whole
    faulty finds = verdict false (faulty_whole sizes (block_at sizes words value) finds)

    pub intact : (ones : ℕ) → Some ones ≡ whole_of sizes (block_at sizes words value) → Ok sizes ≡ entered_whole words fences header value
    unfolding whole
    intact ones finds = verdict true (intact-whole sizes (block_at sizes words value) ones finds)
