-- What follows from the history theorem, by name: no damage, few ones, right fences, one value a row, few words opened, Query in rows. Assumes nothing.
use mathlib.Core.Path.{◌∙◌, ap, sym}
use mathlib.Core.Logic.{inl, inr, ⊎_elim}
use lib.ListN.{length}
use Rattle.memory.specs.Memory.{Memory}
use Rattle.history.specs.Calls.{Index, Said}
use Rattle.history.specs.Plain.{Plain, header_of, byte_at, plain_loaded, plain_run}
use Rattle.history.specs.History.{Agrees, Always}
use Rattle.history.specs.Corollaries.{NoDamage, FewOnes, FencesLead, OneValueARow, OpenedFew, QueryRows}
use Rattle.history.proofs.Agreeing.{over, under_header, row_live, row_other, row_deleted, live_or_deleted}
use Rattle.history.proofs.PlainUndamaged.{plain_undamaged}
use Rattle.history.proofs.QueryInRows.{query_below, query_writes}
use Rattle.history.proofs.Tests.{one_exactly}
use Rattle.history.proofs.Theorem.{history}
use Rattle.history.proofs.ValueAgrees.{value_finds, refused_opens, value_good}

-- what holds of each memory that agrees with a column under its header holds always
always : (Holds : Index → Plain → Type 0)
    → ((plain : Plain) (memory : Memory) → Agrees (over plain memory) plain → Holds (over plain memory) plain)
    → Always Holds
always Holds there rows values threshold spacing column memory accepted calls =
    let plain = plain_run (plain_loaded (length memory.words) (length memory.fences) rows values threshold spacing column) calls in
    under_header plain (λ (index : Index). Holds index plain) (there plain) _ (history rows values threshold spacing column memory accepted calls).0

-- THEOREM: no call reports damage
pub no_damage : Always NoDamage
no_damage rows values threshold spacing column memory accepted calls call damaged =
    let good = (history rows values threshold spacing column memory accepted calls).1 call in
    plain_undamaged _ call (sym (ap (λ (said : Said). said.number) good.says) ∙ damaged)

-- THEOREM: no update list has more than T ones
pub few_ones : Always FewOnes
few_ones = always FewOnes (λ plain memory agrees value h. (agrees.sound.lists value h).few_ones)

-- THEOREM: every fence leads to its word
pub fences_lead : Always FencesLead
fences_lead = always FencesLead (λ plain memory agrees value h. agrees.sound.fences value h)

-- THEOREM: a live row is in its value's list and in no other, a deleted row in none
pub one-value_a_row : Always OneValueARow
one-value_a_row =
    always OneValueARow
    (λ plain memory agrees row h. ⊎_elim
    (λ live. inl (live, row_live plain memory agrees row live, row_other plain memory agrees row))
    (λ gone. inr (gone, row_deleted plain memory agrees row gone))
    (live_or_deleted plain memory agrees row h))

-- THEOREM: Value opens few words, and reports those that it opened
pub opened_few : Always OpenedFew
opened_few =
    always OpenedFew
    (λ plain memory agrees row.
    record {
      few = (value_good plain memory agrees row).opens;
      counts = λ h. (value_finds plain memory agrees row h).opens;
      none = refused_opens plain memory agrees row;
    })

-- THEOREM: a row is in an accepted Query's list exactly when the column's byte is the value
pub query_rows : Always QueryRows
query_rows =
    always QueryRows
    (λ plain memory agrees value out ok row.
    rw (query_writes (header_of plain) memory value out ok, agrees.rows row value (query_below (header_of plain) memory value out ok))
    (one_exactly (byte_at plain.column row) value))
