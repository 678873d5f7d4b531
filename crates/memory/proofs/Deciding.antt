-- Checks in their order: what is asked of an entry, and whatever else reads checks so, take the first that applies; and what an entry that is ready says. Assumes nothing.
use Rattle.std.specs.Prelude.{Result, Ok, Err}
use mathlib.Core.Path.{◌≡◌, refl, sym, ap, ◌∙◌}
use mathlib.Core.Bool.{true, false, and-eq-true_iff}
use mathlib.Core.List.{List, [], ◌∷◌, ◌++◌}
use Prim.Native.Nat.{ℕ, ◌*◌}
use native.Mathlib.Omega.{arith}
use lib.Dec.{leb}
use borrow.Author.Tests.{leb-true, not-false}
use Rattle.answers.specs.Numbers.{number_of}
use Rattle.answers.specs.Outcome.{Check, ◌when◌, Outcome, outcome}
use Rattle.answers.specs.declared.Refusal.{Refusal}
use Rattle.answers.proofs.Accepted.{Passes}
use Rattle.blocks.specs.Sizes.{block_size, fence_count}
use Rattle.blocks.specs.declared.sizes.Sizes.{Sizes}
use Rattle.memory.specs.Memory.{Memory, within_limits, sizes_of, lent}
use Rattle.memory.specs.Entry.{bad_header, small}
use Rattle.memory.specs.Inner.{Planned, decided, asked_all, entered_index, entered}
use Rattle.memory.specs.Outcomes.{After, change}
use Rattle.memory.specs.declared.header.Header.{Header}

-- ---- an entry

-- a stop stays, whatever is asked behind it
stays : {A : Type 0} (refusal : Refusal) (checks : List Check) → asked_all {A = A} (Err refusal) checks ≡ Err refusal
stays refusal [] = refl
stays refusal (check ∷ checks) = stays refusal checks

pub not_ready : {A : Type 0} {done : A} {refusal : Refusal} → Ok done ≡ Err refusal → ⊥
not_ready e = let z : ◌≡◌ {A = ℕ} 0 1 = cc in omega arith

pub same_reason : {A : Type 0} {refusal first : Refusal} → ◌≡◌ {A = Result A Refusal} (Err refusal) (Err first) → first ≡ refusal
same_reason e = cc

same_decision : {A : Type 0} {decision done : A} → ◌≡◌ {A = Result A Refusal} (Ok decision) (Ok done) → decision ≡ done
same_decision e = cc

-- what is ready has the sizes that were asked with, and no check refuses
pub ready_passes : (given sizes : Sizes) (checks : List Check) → Ok sizes ≡ asked_all (Ok given) checks → (sizes ≡ given) × Passes checks
ready_passes given sizes [] e = (cc, tt)
ready_passes given sizes (refusal when true ∷ checks) e = absurd (not_ready (e ∙ stays refusal checks))
ready_passes given sizes (refusal when false ∷ checks) e = let behind = ready_passes given sizes checks e in (behind.0, (refl, behind.1))

-- ---- whatever reads checks

-- the first that applies refuses
pub record Refuses {A : Type 0} (read : List Check → A) (refused : Refusal → A) : Type 0 where
  pub stops : (refusal : Refusal) (checks : List Check) → read (refusal when true ∷ checks) ≡ refused refusal
  pub goes_on : (refusal : Refusal) (checks : List Check) → read (refusal when false ∷ checks) ≡ read checks

module _ {A : Type 0} {read : List Check → A} {refused : Refusal → A} (refuses : Refuses read refused) (rest : List Check) where
  -- checks that pass leave those behind them
  pub passes_read : (checks : List Check) → Passes checks → read (checks ++ rest) ≡ read rest
  passes_read [] p = refl
  passes_read (refusal when test ∷ checks) p = rw p.0 (refuses.goes_on refusal (checks ++ rest) ∙ passes_read checks p.1)

  -- a stop is the refusal of the first check that applies
  pub stop_read : (given : Sizes) (refusal : Refusal) (checks : List Check) → Err refusal ≡ asked_all (Ok given) checks
      → read (checks ++ rest) ≡ refused refusal
  stop_read given refusal [] e = absurd (not_ready (sym e))
  stop_read given refusal (first when true ∷ checks) e =
      refuses.stops first (checks ++ rest) ∙ ap refused (same_reason (e ∙ stays first checks))
  stop_read given refusal (first when false ∷ checks) e = refuses.goes_on first (checks ++ rest) ∙ stop_read given refusal checks e

-- ---- what reads them: a decision, a change, a call with an output

pub decided_refuses : {A : Type 0} (refused : Refusal → A) (done : A) → Refuses (λ checks. decided refused checks done) refused
decided_refuses refused done = record { stops = λ refusal checks. refl; goes_on = λ refusal checks. refl }

-- refused: the header given back, the memory as it was
abbrev pub refused_change : Header → Memory → Refusal → After
refused_change back memory refusal = record { answer = record { number = number_of refusal; count = 0 }; header = back; memory = memory }

pub change_refuses : (back : Header) (memory : Memory) (after : After) → Refuses (λ checks. change checks back memory after) (refused_change back memory)
change_refuses back memory after = record { stops = λ refusal checks. refl; goes_on = λ refusal checks. refl }

-- refused: the output as it was
abbrev pub refused_outcome : List ℕ → Refusal → Outcome
refused_outcome out refusal = record { answer = record { number = number_of refusal; count = 0 }; output = out }

pub outcome_refuses : (result out : List ℕ) → Refuses (λ checks. outcome checks result out) (refused_outcome out)
outcome_refuses result out = record { stops = λ refusal checks. refl; goes_on = λ refusal checks. refl }

-- ---- a decision and the change that carries it out have the same checks

module _ {A : Type 0} {refused : Refusal → A} {done : A} (back : Header) (memory : Memory) (after : After) where
  -- THEOREM: where the decision refuses, the change is refused for that reason, and nothing is changed
  pub refused_changes : ((refusal other : Refusal) → refused refusal ≡ refused other → refusal ≡ other) → ((refusal : Refusal) → done ≡ refused refusal → ⊥)
      → (checks : List Check) (refusal : Refusal) → refused refusal ≡ decided refused checks done
      → change checks back memory after ≡ refused_change back memory refusal
  refused_changes same differs [] refusal e = absurd (differs refusal (sym e))
  refused_changes same differs (first when true ∷ checks) refusal e = ap (refused_change back memory) (sym (same refusal first e))
  refused_changes same differs (first when false ∷ checks) refusal e = refused_changes same differs checks refusal e

  -- THEOREM: where it does not, the change is made, as decided
  pub decided_changes : (checks : List Check) (decision : A) → ((refusal : Refusal) → decision ≡ refused refusal → ⊥)
      → decision ≡ decided refused checks done → (decision ≡ done) × (change checks back memory after ≡ after) × Passes checks
  decided_changes [] decision differs e = (e, refl, tt)
  decided_changes (first when true ∷ checks) decision differs e = absurd (differs first e)
  decided_changes (first when false ∷ checks) decision differs e =
      let rest = decided_changes checks decision differs e in (rest.0, rest.1, (refl, rest.2))

-- THEOREM: both, of a decision that is a Result
module _ {A : Type 0} (back : Header) (memory : Memory) (after : After) (done : A) (checks : List Check) where
  pub err_changes : (refusal : Refusal) → Err refusal ≡ decided Err checks (Ok done) → change checks back memory after ≡ refused_change back memory refusal
  err_changes = refused_changes {refused = Err} back memory after (λ refusal other e. sym (same_reason e)) (λ refusal. not_ready) checks

  pub ok_changes : (decision : A) → Ok decision ≡ decided Err checks (Ok done)
      → (decision ≡ done) × (change checks back memory after ≡ after) × Passes checks
  ok_changes decision e =
      let told = decided_changes {refused = Err} back memory after checks (Ok decision) (λ refusal. not_ready) e in (same_decision told.0, told.1, told.2)

-- ---- what the entry into an index says

-- the checks of a call on an index, of 1 and 2 and those behind them
abbrev pub call_checks : ℕ → ℕ → Header → List Check → List Check
call_checks words fences header checks = bad_header header ∷ small header words fences ∷ checks

module _ (words fences : ℕ) (header : Header) (checks : List Check) where
  -- the sizes are those of a header within its limits, the memory is lent, and the call's own checks pass
  pub record Enters (sizes : Sizes) : Type 0 where
    pub planned : Planned header sizes words fences
    pub lends : lent header words fences ≡ true
    pub passes : Passes checks

  -- THEOREM: what it says that the checks pass
  pub passes_enters : Passes (call_checks words fences header checks) → Enters (sizes_of header)
  unfolding lent
  passes_enters told =
      let lends = not-false (lent header words fences) told.1.0 in
      let blocks = header.values * block_size (sizes_of header) in
      let records = header.values * fence_count (sizes_of header) in
      let both = (and-eq-true_iff (leb blocks words) (leb records fences)).0 lends in
      record {
        planned = record {
          planned = refl;
          holds = not-false (within_limits header) told.0;
          words_lent = leb-true blocks words both.0;
          fences_lent = leb-true records fences both.1;
        };
        lends = lends;
        passes = told.1.1;
      }

  -- THEOREM: what it says that the entry is ready
  pub ready_enters : (sizes : Sizes) → Ok sizes ≡ entered words fences header checks → Enters sizes
  unfolding entered_index
  ready_enters sizes e =
      let told = ready_passes (sizes_of header) sizes (call_checks words fences header checks) e in rw told.0 (passes_enters told.1)

  module _ {A : Type 0} {read : List Check → A} {refused : Refusal → A} (refuses : Refuses read refused) (rest : List Check) where
    -- THEOREM: where the entry stops, what reads the call's checks refuses for that reason
    pub stop_refused : (refusal : Refusal) → Err refusal ≡ entered words fences header checks
        → read (call_checks words fences header (checks ++ rest)) ≡ refused refusal
    unfolding entered_index
    stop_refused refusal e = stop_read refuses rest (sizes_of header) refusal (call_checks words fences header checks) e

    -- THEOREM: where it is ready, the checks behind decide
    pub ready_goes_on : (sizes : Sizes) → Ok sizes ≡ entered words fences header checks
        → read (call_checks words fences header (checks ++ rest)) ≡ read rest
    unfolding entered_index
    ready_goes_on sizes e =
        passes_read refuses rest (call_checks words fences header checks) (ready_passes (sizes_of header) sizes (call_checks words fences header checks) e).1
