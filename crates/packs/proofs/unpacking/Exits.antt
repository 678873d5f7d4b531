-- The exits of Unpack: each gives the outcome that document 01 names. Assumes nothing.
use Rattle.std.specs.Prelude.{Ok, Err}
use mathlib.Core.Path.{◌≡◌, refl}
use mathlib.Core.List.{List, ◌++◌}
use Prim.Native.Nat.{ℕ, ◌*◌, ◌<◌, ◌≤◌}
use native.Mathlib.Omega.{arith}
use lib.ListN.{length, take, drop}
use lib.Seq.{length-take-le}
use borrow.Author.Tests.{lt-ltb, le-ltb}
use Rattle.answers.specs.Outcome.{Gives}
use Rattle.answers.specs.declared.Refusal.TheVariants.{Full, OutSmall, BadList}
use Rattle.groups.specs.Rows.{row_limit}
use Rattle.words.specs.Words.{unpacked, decode}
use Rattle.list_check.specs.Inner.{accepted, rejected, check_of}
use Rattle.packs.specs.Calls.{unpack_outcome}
use Rattle.words.proofs.Canonical.{canonical_parts, unpacked-length}
use Rattle.packs.proofs.Calls.{CanUnpack, unpack_done}
use Rattle.list_check.proofs.check.Verdict.{bad_canonical, whole-canonical}

module _ (list : List ℕ) (rows : ℕ) (out : List ℕ) where
  pub full : row_limit < rows → Gives (unpack_outcome list rows out) (Err Full) out
  unfolding unpack_outcome
  full h = rw (lt-ltb row_limit rows h) (record { answers = refl; leaves = refl })

  pub small : rows ≤ row_limit → length out < rows → Gives (unpack_outcome list rows out) (Err OutSmall) out
  unfolding unpack_outcome
  small few h = rw (le-ltb row_limit rows few, lt-ltb (length out) rows h) (record { answers = refl; leaves = refl })

  pub bad_list : rows ≤ row_limit → rows ≤ length out → rejected ≡ check_of list rows → Gives (unpack_outcome list rows out) (Err BadList) out
  unfolding unpack_outcome
  bad_list few room e =
      rw (le-ltb row_limit rows few, le-ltb (length out) rows room, bad_canonical list rows e) (record { answers = refl; leaves = refl })

  pub passes : rows ≤ row_limit → rows ≤ length out → accepted ≡ check_of list rows → CanUnpack list rows out
  passes few room e = record { few = few; room = room; good = whole-canonical list rows e }

  -- the front of the output has room for the rows, and the list has as many of them
  module _ (can : CanUnpack list rows out) where
    front : length (take rows out) ≡ rows
    front = length-take-le rows out can.room

    pub has_rows : (length (take rows out) ≤ row_limit) × (length (take rows out) ≤ 31 * length (decode list))
    has_rows = rw front (can.few, omega (arith, (canonical_parts rows list can.good).long))

    pub done : (bytes : List ℕ) → bytes ≡ unpacked (length (take rows out)) list → Gives (unpack_outcome list rows out) (Ok rows) (bytes ++ drop rows out)
    done bytes written =
        let long = unpacked-length rows list can.good in
        rw (unpack_done list rows out can) (record { answers = rw long refl; leaves = rw (written, front, long) refl })
