-- The first rows given to an output: refused where it has no room for them, else written over its front. Assumes nothing.
use Rattle.std.specs.Prelude.{Ok, Err}
use mathlib.Core.Path.{◌≡◌, refl, ◌∙◌}
use mathlib.Core.List.{List}
use Prim.Native.Nat.{ℕ, ◌<◌, ◌≤◌}
use native.Mathlib.Nat.{zero-add}
use lib.ListN.{length, drop}
use lib.Seq.{paste, length-take-le}
use borrow.Author.Tests.{lt-ltb, le-ltb}
use Rattle.answers.specs.Outcome.{Gives}
use Rattle.answers.specs.declared.Refusal.TheVariants.{OutSmall}
use Rattle.dump_spans.specs.Inner.{rows_given}

module _ (issued : ℕ) (rows out : List ℕ) where
  pub no_room : length out < issued → Gives (rows_given issued rows out) (Err OutSmall) out
  unfolding rows_given
  no_room short = rw (lt-ltb (length out) issued short) (record { answers = refl; leaves = refl })

  pub given : issued ≤ length rows → issued ≤ length out → (left : List ℕ) → left ≡ paste out 0 (drop 0 rows) issued
      → Gives (rows_given issued rows out) (Ok issued) left
  unfolding rows_given
  given enough room left copied =
      let long = length-take-le issued rows enough in
      rw (le-ltb (length out) issued room)
      (record { answers = rw long refl; leaves = copied ∙ rw (long, zero-add) refl })
