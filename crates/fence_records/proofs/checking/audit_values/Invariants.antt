-- `audit_values`: the first values are sound, no row is in two of them, and their rows are taken.
use Rattle.fence_records.proofs.checking.Rounds.{Audited}
use Rattle.fence_records.proofs.checking.audit_values.Given as goal

abbrev pub invariant-loop-value : goal.invariant-loop-value
invariant-loop-value l = Audited l.header l.words l.fences l.value l.taken
