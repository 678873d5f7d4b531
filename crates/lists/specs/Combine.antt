-- Document 02 [3] ahead: two lists of groups are combined bit by bit, by an operation that is a table of four answers.
use Rattle.std.specs.Prelude.{List, [], ◌∷◌, ℕ, zero, suc, ◌+◌, ◌*◌, ◌/◌, ◌%◌}

-- the answers for the bits 0 0, 0 1, 1 0 and 1 1
pub record Operation : Type 0 where
  pub neither : ℕ
  pub right : ℕ
  pub left : ℕ
  pub both : ℕ

-- 1 where the bits differ
abbrev pub exclusive : Operation
exclusive = record { neither = 0; right = 1; left = 1; both = 0 }

-- the answer for two bits
abbrev pub answer : Operation → ℕ → ℕ → ℕ
answer operation zero zero = operation.neither
answer operation zero (suc b) = operation.right
answer operation (suc a) zero = operation.left
answer operation (suc a) (suc b) = operation.both

-- the answers for the k lowest bits of two numbers
abbrev pub on_bits : Operation → ℕ → ℕ → ℕ → ℕ
on_bits operation zero x y = 0
on_bits operation (suc k) x y = on_bits operation k (x / 2) (y / 2) * 2 + answer operation (x % 2) (y % 2)

-- the operation on two groups
unfoldable pub on_group : Operation → ℕ → ℕ → ℕ
on_group operation x y = on_bits operation 31 x y

-- the operation on two lists of equally many groups
abbrev pub combined : Operation → List ℕ → List ℕ → List ℕ
combined operation [] ys = []
combined operation (x ∷ xs) [] = []
combined operation (x ∷ xs) (y ∷ ys) = on_group operation x y ∷ combined operation xs ys
