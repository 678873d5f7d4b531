-- A query's part for one value where the output has room: it gives the outcome that document 01 names. Assumes nothing.
use Rattle.std.specs.Prelude.{Ok}
use mathlib.Core.Path.{◌≡◌}
use mathlib.Core.List.{List, ◌++◌}
use Prim.Native.Nat.{ℕ, ◌≤◌}
use lib.ListN.{length, drop}
use Rattle.answers.specs.Outcome.{Gives}
use Rattle.answers.proofs.Given.{fits}
use Rattle.words.specs.Words.{encode}
use Rattle.blocks.specs.Block.{current}
use Rattle.blocks.specs.declared.sizes.Sizes.{Sizes}
use Rattle.block_change.specs.Inner.{list_outcome}

pub done : (sizes : Sizes) (block out : List ℕ) → length (encode (current sizes block)) ≤ length out → (count : ℕ) (last : List ℕ)
    → count ≡ length (encode (current sizes block)) → last ≡ encode (current sizes block) ++ drop count out
    → Gives (list_outcome sizes block out) (Ok count) last
unfolding list_outcome
done sizes block out = fits (encode (current sizes block)) out
