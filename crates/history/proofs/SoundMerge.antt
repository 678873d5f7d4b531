-- A merge on a sound index: it is sound again, every value has the same rows, and no Query, Value state or Dump changes. Assumes nothing.
use mathlib.Core.Path.{◌≡◌, ap}
use mathlib.Core.List.{List}
use Prim.Native.Nat.{ℕ, ◌<◌}
use native.Mathlib.Omega.{arith}
use Rattle.blocks.specs.Block.{current}
use Rattle.blocks.specs.declared.sizes.Sizes.{Sizes}
use Rattle.block_change.specs.Change.{merged}
use Rattle.block_change.proofs.Merging.{current-merged}
use Rattle.memory.specs.Memory.{Memory, sizes_of, block_at, rows_in}
use Rattle.memory.specs.declared.header.Header.{Header}
use Rattle.memory.proofs.Headers.{within}
use Rattle.change_value.specs.Change.{merged_in}
use Rattle.change_value.proofs.Changing.{merged_puts}
use Rattle.index.specs.Soundness.{Sound}
use Rattle.index.specs.Calls.{query_outcome, value_outcome, dump_outcome}
use Rattle.history.proofs.Changes.{Replaced, replaced}
use Rattle.history.proofs.SameRows.{SameState, query_same, value_same, dump_same}
use Rattle.history.proofs.Sound.{sound_fenced, sound_limits, sound_whole}
use Rattle.history.proofs.SoundAfter.{sound_after}
use Rattle.history.proofs.SoundBlocks.{lists-whole, merged_sound}
use Rattle.history.proofs.Tests.{of_each}

module _ (header : Header) (memory : Memory) (s : Sound header memory) (value : ℕ) (h : value < header.values) where
  abbrev sizes : Sizes
  sizes = sizes_of header

  abbrev block : List ℕ
  block = block_at sizes memory.words value

  abbrev after : Memory
  after = merged_in sizes memory value

  -- the value has the merged block, with fences made anew
  pub merge_replaces : Replaced sizes value memory after (merged sizes block)
  unfolding merged_in
  merge_replaces =
      let place = sound_fenced header memory s value h in
      replaced sizes memory value place.room
      (merged_puts sizes place.limits memory.words value place.inside (sound_whole header memory s value h))

  -- THEOREM: every value has the rows that it had
  pub merge_rows : (each : ℕ) → rows_in sizes after.words each ≡ rows_in sizes memory.words each
  unfolding rows_in
  merge_rows =
      of_each value (λ each. current sizes (block_at sizes after.words each) ≡ current sizes (block_at sizes memory.words each))
      (rw merge_replaces.words.own (current-merged sizes (sound_limits header memory s) block (lists-whole (s.lists value h))))
      (λ other differ. ap (current sizes) (merge_replaces.words.others other differ))

  -- THEOREM: the index is sound again
  pub merge_sound : Sound header after
  merge_sound =
      sound_after header memory after value (merged sizes block) s merge_replaces header.issued (omega arith) (within header s.within).few_issued
      (merged_sound sizes (sound_limits header memory s) header.issued block (s.lists value h))
      (λ row one other. rw (merge_rows one, merge_rows other) (s.apart row one other))

  same : (each : ℕ) → each < header.values → rows_in sizes after.words each ≡ rows_in sizes memory.words each
  same each l = merge_rows each

  -- THEOREM: no Query changes, whatever the output
  pub merge_query : (each : ℕ) (out : List ℕ) → query_outcome header after each out ≡ query_outcome header memory each out
  merge_query = query_same header after memory merge_sound s same

  -- THEOREM: no Value state changes
  pub merge_value : (row : ℕ) → SameState (value_outcome header after row) (value_outcome header memory row)
  merge_value = value_same header after memory merge_sound s same

  -- THEOREM: no Dump changes
  pub merge_dump : (out : List ℕ) → dump_outcome header after out ≡ dump_outcome header memory out
  merge_dump = dump_same header after memory merge_sound s same
