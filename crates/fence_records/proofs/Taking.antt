-- The loop over the values that keeps the rows of those behind it in an array of groups: its begin and its turn. Assumes nothing.
use mathlib.Core.Path.{◌≡◌, ap}
use mathlib.Core.List.{List, ◌++◌}
use Prim.Native.Nat.{ℕ, suc, ◌≤◌}
use native.Mathlib.Omega.{arith}
use lib.ListN.{length, take, drop, replicate, length-append, length-replicate}
use lib.Seq.{take_at}
use Rattle.groups.specs.Inner.{Groups}
use Rattle.groups.proofs.Groups.{groups-drop, groups-append, groups-zeros}
use Rattle.lists.specs.Combine.{combined}
use Rattle.lists.specs.Inner.{either}
use Rattle.lists.proofs.Combining.{combined-lt}
use Rattle.lists.proofs.Operations.{either_bits}
use Rattle.blocks.specs.Inner.{Limits}
use Rattle.blocks.proofs.Rooms.{take-zeros}
use Rattle.memory.specs.Memory.{sizes_of, rows_in}
use Rattle.memory.specs.declared.header.Header.{Header}
use Rattle.fence_records.proofs.Taken.{taken_before, SoundUpTo, taken_long}

-- the first M groups of an array are the rows of the first values
pub record Taking (header : Header) (words : List ℕ) (value : ℕ) (taken : List ℕ) : Type 0 where
  pub front : take (sizes_of header).groups taken ≡ taken_before header words value
  pub small : Groups taken
  pub room : (sizes_of header).groups ≤ length taken

pub taking_begins : (header : Header) (words : List ℕ) (count : ℕ) → (sizes_of header).groups ≤ count → Taking header words 0 (replicate count 0)
taking_begins header words count room =
    record {
      front = take-zeros (sizes_of header).groups count room;
      small = groups-zeros count;
      room = rw length-replicate room;
    }

module _ {header : Header} {words : List ℕ} {value : ℕ} {taken : List ℕ} (t : Taking header words value taken) where
  -- its rows are taken
  pub taking_on : Limits (sizes_of header) → SoundUpTo header words (suc value) → (new : List ℕ)
      → new ≡ combined either (take (sizes_of header).groups taken) (rows_in (sizes_of header) words value) ++ drop (sizes_of header).groups taken
      → Taking header words (suc value) new
  taking_on limits is_sound new e =
      let count = (sizes_of header).groups in
      let more = taken_before header words (suc value) in
      let whole : new ≡ more ++ drop count taken = rw t.front at e in
      let long : length more ≡ count = taken_long header words limits (suc value) is_sound in
      record {
        front = rw whole (take_at more (drop count taken) count long);
        small = rw whole
            (groups-append more (drop count taken) (combined-lt either either_bits (taken_before header words value) (rows_in (sizes_of header) words value))
            (groups-drop count taken t.small));
        room = omega (arith, ap length whole, length-append more (drop count taken), long);
      }
