-- `pack_blocks` meets its contract: after so many turns the blocks of as many values are packed. Assumes nothing.
use Rattle.std.proofs.Common.{◌≡◌}
use Rattle.load_column.specs.Inner.{packed_words}
use Rattle.load_column.proofs.column.pack_blocks.Given as goal

abbrev pub invariant-loop-value : goal.invariant-loop-value
invariant-loop-value l = l.words ≡ packed_words l.sizes l.filled l.value l.initial.words
