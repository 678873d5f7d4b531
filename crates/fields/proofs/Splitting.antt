-- Laws of the fields of a line.
use Rattle.std.proofs.Common.{◌≡◌, ℕ, ◌<◌, List, length, drop, not, None, Some, refl, arith}
use Rattle.std.proofs.lemmas.Bool.{le-ltb, lt-ltb}
use Rattle.std.specs.List.{position_or_len}
use Rattle.fields.specs.Line.{is_space, from_field}

-- Only spaces are left.
pub no_field : (line : List ℕ) → position_or_len (λ byte. not (is_space byte)) line ≡ length line → from_field line ≡ None
no_field line all = rw (all, le-ltb (length line) (length line) (omega arith)) refl

-- A field begins after the spaces.
pub a_field : (line : List ℕ) (from : ℕ) → from < length line → position_or_len (λ byte. not (is_space byte)) line ≡ from → from_field line ≡ Some (drop from line)
a_field line from less found = rw (found, lt-ltb from (length line) less) refl
