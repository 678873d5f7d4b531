-- Pack and Unpack undo each other, and each promise allows one answer and one output. Assumes nothing.
use Rattle.std.specs.Prelude.{Result}
use mathlib.Core.Path.{◌≡◌, ◌∙◌, ap}
use mathlib.Core.Bool.{true, not}
use mathlib.Core.List.{List}
use Prim.Native.Nat.{ℕ, ◌≤◌}
use lib.ListN.{length, take, drop}
use lib.Seq.{take-append_seam, take_at}
use borrow.Author.Tests.{le-ltb, ltb-false, not-false}
use Rattle.answers.specs.Outcome.{Gives}
use Rattle.answers.proofs.Accepted.{done, accepted, passes_done}
use Rattle.answers.proofs.OneToOne.{gives_one}
use Rattle.groups.specs.Rows.{row_limit, are_bits}
use Rattle.words.specs.Words.{unpacked, packed, canonical}
use Rattle.packs.specs.Calls.{pack_checks, pack_outcome, unpack_checks, unpack_outcome}
use Rattle.words.proofs.Round.{Words}
use Rattle.words.proofs.Canonical.{packed-canonical, unpacked-packed, unpacked_bits, unpacked-length, packed-unpacked}
use Rattle.answers.specs.declared.Refusal.{Refusal}

-- ---- Pack

-- what has to hold for Pack to write
record CanPack (rows out : List ℕ) : Type 0 where
  bits : are_bits rows ≡ true
  few : length rows ≤ row_limit
  room : length (packed rows) ≤ length out

module _ (rows out : List ℕ) where
  pack_accepted : (pack_outcome rows out).answer.number ≡ 0 → CanPack rows out
  unfolding pack_outcome
  pack_accepted e =
      let p = accepted (pack_checks rows out) (packed rows) out e in
      record {
        bits = not-false (are_bits rows) p.0;
        few = ltb-false row_limit (length rows) p.1.0;
        room = ltb-false (length out) (length (packed rows)) p.1.1.0;
      }

  pack_done : CanPack rows out → pack_outcome rows out ≡ done (packed rows) out
  unfolding pack_outcome
  pack_done can =
      passes_done (pack_checks rows out) (packed rows) out
      (ap not can.bits, (le-ltb row_limit (length rows) can.few, (le-ltb (length out) (length (packed rows)) can.room, tt)))

-- ---- Unpack

-- what has to hold for Unpack to write
pub record CanUnpack (list : List ℕ) (count : ℕ) (out : List ℕ) : Type 0 where
  pub few : count ≤ row_limit
  pub room : count ≤ length out
  pub good : canonical count list ≡ true

module _ (list : List ℕ) (count : ℕ) (out : List ℕ) where
  unpack_accepted : (unpack_outcome list count out).answer.number ≡ 0 → CanUnpack list count out
  unfolding unpack_outcome
  unpack_accepted e =
      let p = accepted (unpack_checks list count out) (unpacked count list) out e in
      record {
        few = ltb-false row_limit count p.0;
        room = ltb-false (length out) count p.1.0;
        good = not-false (canonical count list) p.1.1.0;
      }

  pub unpack_done : CanUnpack list count out → unpack_outcome list count out ≡ done (unpacked count list) out
  unfolding unpack_outcome
  unpack_done can =
      passes_done (unpack_checks list count out) (unpacked count list) out
      (le-ltb row_limit count can.few, (le-ltb (length out) count can.room, (ap not can.good, tt)))

-- ---- one after the other

-- THEOREM: Unpack gives back the rows that Pack has packed
pub pack_unpack : (rows out bytes : List ℕ) → (pack_outcome rows out).answer.number ≡ 0 → length rows ≤ length bytes
    → unpack_outcome (take (pack_outcome rows out).answer.count (pack_outcome rows out).output) (length rows) bytes ≡ done rows bytes
pack_unpack rows out bytes e room =
    let can = pack_accepted rows out e in
    let back = unpacked-packed rows can.bits can.few in
    let again : CanUnpack (packed rows) (length rows) bytes = record { few = can.few; room = room; good = packed-canonical rows can.bits can.few } in
    rw (pack_done rows out can, take-append_seam)
    (unpack_done (packed rows) (length rows) bytes again ∙ ap (λ (result : List ℕ). done result bytes) back)

-- THEOREM: Pack gives back the list that Unpack has unpacked
pub unpack_pack : (list : List ℕ) (count : ℕ) (bytes out : List ℕ) → Words list → (unpack_outcome list count bytes).answer.number ≡ 0
    → length list ≤ length out → pack_outcome (take count (unpack_outcome list count bytes).output) out ≡ done list out
unpack_pack list count bytes out words e room =
    let can = unpack_accepted list count bytes e in
    let rows = unpacked count list in
    let long = unpacked-length count list can.good in
    let back = packed-unpacked count list can.good words in
    let again : CanPack rows out = record { bits = unpacked_bits count list; few = rw long can.few; room = rw back room } in
    rw (unpack_done list count bytes can, take_at rows (drop (length rows) bytes) count long)
    (pack_done rows out again ∙ ap (λ (result : List ℕ). done result out) back)

-- ---- one outcome

-- THEOREM: Pack's promise allows one answer and one output
pub pack_one : (rows out : List ℕ) (a b : Result ℕ Refusal) (out₁ out₂ : List ℕ)
    → Gives (pack_outcome rows out) a out₁ → Gives (pack_outcome rows out) b out₂ → (a ≡ b) × (out₁ ≡ out₂)
pack_one rows out = gives_one (pack_outcome rows out)

-- THEOREM: Unpack's promise allows one answer and one output
pub unpack_one : (list : List ℕ) (count : ℕ) (out : List ℕ) (a b : Result ℕ Refusal) (out₁ out₂ : List ℕ)
    → Gives (unpack_outcome list count out) a out₁ → Gives (unpack_outcome list count out) b out₂ → (a ≡ b) × (out₁ ≡ out₂)
unpack_one list count out = gives_one (unpack_outcome list count out)
