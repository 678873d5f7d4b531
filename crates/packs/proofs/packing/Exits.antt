-- The exits of Pack: each gives the outcome that document 01 names. Assumes nothing.
use Rattle.std.specs.Prelude.{Err}
use mathlib.Core.Path.{◌≡◌, refl}
use mathlib.Core.Bool.{true, false}
use mathlib.Core.List.{List}
use Prim.Native.Nat.{ℕ, ◌<◌, ◌≤◌}
use lib.ListN.{length}
use borrow.Author.Tests.{lt-ltb, le-ltb}
use Rattle.answers.specs.Outcome.{Gives}
use Rattle.answers.specs.Inner.{given}
use Rattle.answers.specs.declared.Refusal.TheVariants.{BadValue, Full}
use Rattle.groups.specs.Rows.{row_limit, are_bits}
use Rattle.words.specs.Words.{packed}
use Rattle.packs.specs.Calls.{pack_outcome}

module _ (rows out : List ℕ) where
  pub bad_value_lem : are_bits rows ≡ false → Gives (pack_outcome rows out) (Err BadValue) out
  unfolding pack_outcome
  bad_value_lem bits = rw bits (record { answers = refl; leaves = refl })

  pub full : are_bits rows ≡ true → row_limit < length rows → Gives (pack_outcome rows out) (Err Full) out
  unfolding pack_outcome
  full bits many = rw (bits, lt-ltb row_limit (length rows) many) (record { answers = refl; leaves = refl })

  -- of rows that are in order the list is given
  pub in_order : are_bits rows ≡ true → length rows ≤ row_limit → pack_outcome rows out ≡ given (packed rows) out
  unfolding pack_outcome
  in_order bits few = rw (bits, le-ltb row_limit (length rows) few) refl
