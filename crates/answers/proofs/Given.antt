-- The two exits of a function that gives a finished result. Assumes nothing.
use Rattle.std.specs.Prelude.{Ok, Err}
use mathlib.Core.Path.{◌≡◌, refl}
use mathlib.Core.List.{List, ◌++◌}
use Prim.Native.Nat.{ℕ, ◌<◌, ◌≤◌}
use lib.ListN.{length, drop}
use borrow.Author.Tests.{lt-ltb, le-ltb}
use Rattle.answers.specs.Outcome.{Gives}
use Rattle.answers.specs.Inner.{given}
use Rattle.answers.specs.declared.Refusal.TheVariants.{OutSmall}

module _ (result out : List ℕ) where
  pub too_long : length out < length result → Gives (given result out) (Err OutSmall) out
  too_long short = rw (lt-ltb (length out) (length result) short) (record { answers = refl; leaves = refl })

  pub fits : length result ≤ length out → (count : ℕ) (last : List ℕ) → count ≡ length result → last ≡ result ++ drop count out
      → Gives (given result out) (Ok count) last
  fits room count last c l = rw (le-ltb (length out) (length result) room) (record { answers = rw c refl; leaves = rw (l, c) refl })
