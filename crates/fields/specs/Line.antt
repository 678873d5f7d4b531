-- The fields of a line, which spaces alone separate.
use Rattle.std.specs.Prelude.{Bool, not, ◌==◌, List, ℕ, drop, Option, option_map, unwrap_or, position}
use Rattle.std.specs.List.{position_or_len, before_first}

abbrev pub is_space : ℕ → Bool
is_space byte = byte == 32

-- What a line has from its next field on; none where only spaces are left.
abbrev pub from_field : List ℕ → Option (List ℕ)
from_field line = option_map (λ from. drop from line) (position (λ byte. not (is_space byte)) line)

-- The next field, up to the next space or the end.
abbrev pub next_field : List ℕ → Option (List ℕ)
next_field line = option_map (before_first is_space) (from_field line)

-- What is left after the next field; the line itself where it has none.
abbrev pub rest_after : List ℕ → List ℕ
rest_after line = unwrap_or (option_map (λ rest. drop (position_or_len is_space rest) rest) (from_field line)) line
