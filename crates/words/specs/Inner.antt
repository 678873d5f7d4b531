-- Definitions that the contracts of inner functions alone cite.
use Rattle.std.specs.Prelude.{List, [], ◌∷◌, ◌++◌, ◌≡◌, ℕ, ◌+◌, ◌*◌, ◌<◌, ◌≤◌, length, take, replicate}
use Rattle.std.proofs.lemmas.List.Edits.{sets}
use Rattle.words.specs.Words.{all_ones, encode}
use Rattle.words.specs.declared.writer.Pending.{Pending}
use Rattle.words.specs.declared.writer.Step.{Step}
use Rattle.words.specs.declared.writer.ListWriter.{ListWriter}

-- `count` groups of one bit
abbrev pub uniform : ℕ → ℕ → List ℕ
uniform bit count = replicate count (bit * all_ones)

-- some groups after the run that is pending
abbrev pub after : Pending → List ℕ → List ℕ
after pending groups = uniform pending.bit pending.count ++ groups

-- a group that is not uniform stands alone
abbrev pub Alone : ℕ → ℕ → Type 0
Alone group count = (group ≡ 0 → ⊥) → (group ≡ all_ones → ⊥) → count ≤ 1

-- the words that a step writes
abbrev pub written : Step → List ℕ
written step = take step.words (step.first ∷ step.second ∷ [])

-- the words of the run that is pending at the end: none or one
abbrev pub last_words : Pending → List ℕ
last_words pending = encode (after pending [])

-- a step takes in some groups: whatever groups follow, the words of all are those that it writes and then those of what is pending after it
pub record Takes (pending : Pending) (groups : List ℕ) (step : Step) : Type 0 where
  pub law : (rest : List ℕ) → encode (after pending (groups ++ rest)) ≡ written step ++ encode (after step.pending rest)
  pub few : step.words ≤ 2
  pub is_bit : step.pending.bit < 2
  pub grows : step.pending.count ≤ pending.count + length groups

-- ---- a list that is being written

-- no run
abbrev pub no_run : Pending
no_run = record { bit = 0; count = 0 }

-- some groups can be taken in: the words of these and of those behind them fit
pub record Fits (groups : List ℕ) (list : ListWriter) : Type 0 where
  pub is_bit : list.pending.bit < 2
  pub few : list.pending.count + length groups < 0x40000000
  pub behind : List ℕ
  pub room : list.written + length (encode (after list.pending (groups ++ behind))) ≤ length list.out.now

-- some groups were taken in: whatever groups follow, the words of all are those written and then those of what is pending
pub record Follows (groups : List ℕ) (before list : ListWriter) : Type 0 where
  pub words : List ℕ
  pub law : (rest : List ℕ) → encode (after before.pending (groups ++ rest)) ≡ words ++ encode (after list.pending rest)
  pub is_bit : list.pending.bit < 2
  pub grows : list.pending.count ≤ before.pending.count + length groups
  pub counts : list.written ≡ before.written + length words
  pub writes : list.out.now ≡ sets before.out.now before.written words

-- the run that is pending can be written
pub record Closes (list : ListWriter) : Type 0 where
  pub is_bit : list.pending.bit < 2
  pub few : list.pending.count < 0x40000000
  pub room : list.written + length (last_words list.pending) ≤ length list.out.now
