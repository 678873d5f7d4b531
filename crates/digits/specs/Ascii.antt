-- Texts in ASCII.
use Rattle.std.specs.Prelude.{List, [], ◌∷◌, ℕ}
use Prim.Native.Char.{code}
use Prim.Native.String.{String, [] as no_text, ◌∷◌ as ◌then◌}

-- the bytes of a text
abbrev pub bytes : String → List ℕ
bytes no_text = []
bytes (letter then text) = code letter ∷ bytes text
