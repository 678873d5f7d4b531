-- Definitions that the contracts of inner functions alone cite.
use Rattle.std.specs.Prelude.{List, [], ◌∷◌, ℕ, zero, suc, ◌+◌, ◌*◌, ◌/◌, ◌%◌, ◌<◌, get_or}

-- each of some groups has 31 bits
abbrev pub Groups : List ℕ → Type 0
Groups groups = (i : ℕ) → get_or groups i 0 < 0x80000000

-- the number of four bytes, from the given place on
abbrev pub four_bytes : List ℕ → ℕ → ℕ
four_bytes bytes at = get_or bytes at 0 + get_or bytes (at + 1) 0 * 0x100 + get_or bytes (at + 2) 0 * 0x10000 + get_or bytes (at + 3) 0 * 0x1000000

-- the k lowest bytes of a number
abbrev pub bytes_of : ℕ → ℕ → List ℕ
bytes_of zero number = []
bytes_of (suc k) number = number % 256 ∷ bytes_of k (number / 256)
