-- `column_valid` meets its contract: the column is valid where the largest byte so far and the bytes to come are. Assumes nothing.
use Rattle.std.proofs.Common.{◌≡◌}
use Rattle.memory.specs.Entry.{valid_column}
use Rattle.load_column.proofs.column.Bytes.{valid_from}
use Rattle.load_column.proofs.column.column_valid.Given as goal

abbrev pub invariant-loop-byte : goal.invariant-loop-byte
invariant-loop-byte l = valid_column l.values l.column ≡ valid_from l.values l.column l.largest l.byte-index
