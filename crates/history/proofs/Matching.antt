-- A change of the index beside that of the plain column: both refuse alike by the checks that they share, and a refusal leaves both as they were.
-- Assumes nothing.
use mathlib.Core.Path.{◌≡◌, refl, ◌∙◌, ap}
use mathlib.Core.Bool.{true, false}
use mathlib.Core.List.{List, [], ◌∷◌, ◌++◌}
use Prim.Native.Nat.{ℕ, zero, suc}
use native.Mathlib.Omega.{arith}
use Rattle.answers.specs.Numbers.{number_of}
use Rattle.answers.specs.Outcome.{Check, ◌when◌}
use Rattle.answers.specs.declared.Refusal.{Refusal}
use Rattle.answers.proofs.Accepted.{Passes, no_zero}
use Rattle.memory.specs.Memory.{Memory}
use Rattle.memory.specs.Outcomes.{After, made, change}
use Rattle.memory.specs.declared.header.Header.{Header}
use Rattle.memory.proofs.Deciding.{refused_change}
use Rattle.history.specs.Calls.{Call, Index, index_of, Reply, counted, changing, obey, last_accepted, replied}
use Rattle.history.specs.Plain.{Plain, PlainReply, numbered, becoming, refusing, plainly}
use Rattle.history.specs.History.{Agrees, Good}

-- what the plain column says to a refused change
abbrev pub refused_reply : Plain → Refusal → PlainReply
refused_reply plain refusal = record { said = numbered (number_of refusal); output = []; next = plain }

-- a change of the index is that of the column
pub record Matches (index : Index) (after : After) (reply : PlainReply) : Type 0 where
  pub says : counted after.answer ≡ reply.said
  pub writes : [] ≡ reply.output
  pub agrees : Agrees (index_of (last_accepted after.answer.number after.header index.header) after.memory) reply.next

-- THEOREM: both refuse alike by the checks that they share; where these pass, the rest decides
pub shared-checks : (Holds : After → PlainReply → Type 0) (checks more rest : List Check) (back : Header) (memory : Memory) (plain : Plain)
    (after : After) (reply : PlainReply)
    → ((refusal : Refusal) → Holds (refused_change back memory refusal) (refused_reply plain refusal))
    → (Passes checks → Holds (change more back memory after) (refusing rest plain reply))
    → Holds (change (checks ++ more) back memory after) (refusing (checks ++ rest) plain reply)
shared-checks Holds [] more rest back memory plain after reply refused passed = passed tt
shared-checks Holds (refusal when true ∷ checks) more rest back memory plain after reply refused passed = refused refusal
shared-checks Holds (refusal when false ∷ checks) more rest back memory plain after reply refused passed =
    shared-checks Holds checks more rest back memory plain after reply refused (λ passes. passed (refl, passes))

-- the header of the last accepted call stays the valid one
pub last_stays : (number : ℕ) (given last : Header) → (number ≡ 0 → ⊥) → last_accepted number given last ≡ last
last_stays zero given last refused = absurd (refused refl)
last_stays (suc number) given last refused = refl

-- and so does one that is given back
pub header_stays : (number : ℕ) (header : Header) → last_accepted number header header ≡ header
header_stays zero header = refl
header_stays (suc number) header = refl

module _ (index : Index) (plain : Plain) where
  -- THEOREM: refusals match
  pub refused_matches : Agrees index plain → (back : Header) (refusal : Refusal)
      → Matches index (refused_change back index.memory refusal) (refused_reply plain refusal)
  refused_matches agrees back refusal =
      record { says = refl; writes = refl; agrees = rw (last_stays (number_of refusal) back index.header (no_zero refusal)) agrees }

  -- THEOREM: a call whose change matches is good
  pub matches_good : (call : Call) (after : After) → obey index call ≡ changing after → Matches index after (plainly plain call) → Good index plain call
  unfolding replied
  matches_good call after is matches =
      record {
        says = ap (λ (reply : Reply). reply.said) is ∙ matches.says;
        writes = ap (λ (reply : Reply). reply.output) is ∙ matches.writes;
        opens = rw is (omega arith);
        agrees = rw is matches.agrees;
      }

-- an accepted change matches where both agree then
pub made_matches : (index : Index) (count : ℕ) (header : Header) (memory : Memory) (next : Plain) → Agrees (index_of header memory) next
    → Matches index (made count header memory) (becoming count next)
made_matches index count header memory next agrees = record { says = refl; writes = refl; agrees = agrees }
