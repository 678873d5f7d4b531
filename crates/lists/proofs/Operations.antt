-- Laws of an operation on two groups: its bits, its bound, and what it makes of uniform groups; the machine's XOR, AND and OR are such. Assumes nothing.
use mathlib.Core.Path.{◌≡◌, refl, ◌∙◌, ap₂, sym}
use mathlib.Core.Bool.{Bool, true, false}
use mathlib.Core.Logic.{by_cases}
use Prim.Native.Nat.{ℕ, suc, zero, min, max, ◌+◌, ◌-◌, ◌*◌, ◌/◌, ◌%◌, ◌^◌, ◌<◌, ◌≤◌}
use native.Mathlib.Decide.{dec_lt}
use native.Mathlib.Omega.{arith}
use native.Mathlib.Nat.{pow-suc, div-one}
use native.Mathlib.Numerals.{one-add}
use lib.Arith.{lt-one, digits_lt, digits_div, digits_mod}
use lib.Bits.{bit_xor, bit_and, bit_or, differ, xor_step, and_step, or_step}
use lib.Dec.{eqb}
use lib.Pow.{shr-shr}
use borrow.Author.Tests.{eqb-true, eqb-false}
use Rattle.words.specs.Words.{all_ones}
use Rattle.words.specs.Inner.{Alone}
use Rattle.lists.specs.Combine.{Operation, exclusive, answer, on_bits, on_group}
use Rattle.lists.specs.Inner.{shared, either}

-- what holds for the four pairs of bits holds for any two
by_bits : (Holds : ℕ → ℕ → Type 0) → Holds 0 0 → Holds 0 1 → Holds 1 0 → Holds 1 1 → (a b : ℕ) → a < 2 → b < 2 → Holds a b
by_bits Holds neither right left both zero zero p q = neither
by_bits Holds neither right left both zero (suc zero) p q = right
by_bits Holds neither right left both (suc zero) zero p q = left
by_bits Holds neither right left both (suc zero) (suc zero) p q = both
by_bits Holds neither right left both zero (suc (suc b)) p q = absurd (omega arith)
by_bits Holds neither right left both (suc zero) (suc (suc b)) p q = absurd (omega arith)
by_bits Holds neither right left both (suc (suc a)) b p q = absurd (omega arith)

-- each answer is a bit
abbrev pub GivesBits : Operation → Type 0
GivesBits operation = (a b : ℕ) → answer operation a b < 2

gives_bits : (operation : Operation) → operation.neither < 2 → operation.right < 2 → operation.left < 2 → operation.both < 2 → GivesBits operation
gives_bits operation n r l b zero zero = n
gives_bits operation n r l b zero (suc y) = r
gives_bits operation n r l b (suc x) zero = l
gives_bits operation n r l b (suc x) (suc y) = b

pub exclusive_bits : GivesBits exclusive
exclusive_bits = gives_bits exclusive (omega arith) (omega arith) (omega arith) (omega arith)

pub shared_bits : GivesBits shared
shared_bits = gives_bits shared (omega arith) (omega arith) (omega arith) (omega arith)

pub either_bits : GivesBits either
either_bits = gives_bits either (omega arith) (omega arith) (omega arith) (omega arith)

-- 1 turns a bit over, and 0 leaves it
pub turns : (bit : ℕ) → bit < 2 → (answer exclusive bit 1 ≡ 1 - bit) × (answer exclusive bit 0 ≡ bit)
turns zero h = (refl, refl)
turns (suc zero) h = (refl, refl)
turns (suc (suc bit)) h = absurd (omega arith)

-- ---- bit by bit

-- a bit above the lowest is a bit of the half
halves : (n i : ℕ) → n / 2 ^ suc i ≡ n / 2 / 2 ^ i
halves n i = sym (shr-shr n 1 i ∙ rw one-add refl)

module _ (operation : Operation) (bits : GivesBits operation) where
  on_bits-lt : (k x y : ℕ) → on_bits operation k x y < 2 ^ k
  on_bits-lt zero x y = omega arith
  on_bits-lt (suc k) x y = rw pow-suc (digits_lt (on_bits-lt k (x / 2) (y / 2)) (bits (x % 2) (y % 2)))

  bit-on_bits : (k i x y : ℕ) → i < k → on_bits operation k x y / 2 ^ i % 2 ≡ answer operation (x / 2 ^ i % 2) (y / 2 ^ i % 2)
  bit-on_bits zero i x y h = absurd (omega arith)
  bit-on_bits (suc k) zero x y h =
      rw (div-one (on_bits operation (suc k) x y), div-one x, div-one y)
      (digits_mod (on_bits operation k (x / 2) (y / 2)) (bits (x % 2) (y % 2)))
  bit-on_bits (suc k) (suc i) x y h =
      rw (halves (on_bits operation (suc k) x y) i, halves x i, halves y i, digits_div (on_bits operation k (x / 2) (y / 2)) (bits (x % 2) (y % 2)))
      (bit-on_bits k i (x / 2) (y / 2) (omega arith))

  -- the operation on two groups is a group
  pub on_group-lt : (x y : ℕ) → on_group operation x y < 2 ^ 31
  unfolding on_group
  on_group-lt x y = on_bits-lt 31 x y

  -- THEOREM: each bit of the operation on two groups is the answer for their bits
  pub bit-on_group : (i x y : ℕ) → i < 31 → on_group operation x y / 2 ^ i % 2 ≡ answer operation (x / 2 ^ i % 2) (y / 2 ^ i % 2)
  unfolding on_group
  bit-on_group i x y h = bit-on_bits 31 i x y h

-- ---- uniform groups

-- a bit in each of k places
abbrev in_each : ℕ → ℕ → ℕ
in_each bit zero = 0
in_each bit (suc k) = in_each bit k * 2 + bit

in_each-uniform : (bit : ℕ) → bit < 2 → in_each bit 31 ≡ bit * all_ones
in_each-uniform zero h = refl
in_each-uniform (suc zero) h = refl
in_each-uniform (suc (suc bit)) h = absurd (omega arith)

-- a group that comes more than once is uniform
long_uniform : (group count : ℕ) → Alone group count → 1 < count → (bit : ℕ) × (bit < 2) × (group ≡ bit * all_ones)
long_uniform group count alone h = go (eqb group 0) (eqb group all_ones) refl refl
  where
    go : (s t : Bool) → eqb group 0 ≡ s → eqb group all_ones ≡ t → (bit : ℕ) × (bit < 2) × (group ≡ bit * all_ones)
    go true t p q = (0, omega arith, eqb-true group 0 p)
    go false true p q = (1, omega arith, eqb-true group all_ones q)
    go false false p q = absurd (omega (arith, alone (eqb-false group 0 p) (eqb-false group all_ones q)))

module _ (operation : Operation) (bits : GivesBits operation) where
  -- the operation on two uniform groups is a uniform group
  on_group-uniform : (a b : ℕ) → a < 2 → b < 2 → on_group operation (a * all_ones) (b * all_ones) ≡ answer operation a b * all_ones
  unfolding on_group
  on_group-uniform =
      by_bits (λ a b. on_group operation (a * all_ones) (b * all_ones) ≡ answer operation a b * all_ones)
      (in_each-uniform operation.neither (bits 0 0))
      (in_each-uniform operation.right (bits 0 1))
      (in_each-uniform operation.left (bits 1 0))
      (in_each-uniform operation.both (bits 1 1))

  -- where the two make a group that is not uniform, one of them is not uniform and stands alone
  pub alone-on_group : (x m y n count : ℕ) → Alone x m → Alone y n → count ≤ m → count ≤ n → Alone (on_group operation x y) count
  alone-on_group x m y n count a b h k none all =
      by_cases (dec_lt 1 count)
      (λ many.
      let (i, p, u) = long_uniform x m a (omega arith) in
      let (j, q, v) = long_uniform y n b (omega arith) in
      absurd (omega (arith, ap₂ (on_group operation) u v ∙ on_group-uniform i j p q, bits i j, none, all)))
      (λ few. omega arith)

-- ---- the machine's XOR, AND and OR

-- what works bit by bit, with an operation's answers, is that operation
module _ (operation : Operation) (machine bit : ℕ → ℕ → ℕ) (none : machine 0 0 ≡ 0)
    (step : (x y : ℕ) → machine x y ≡ machine (x / 2) (y / 2) * 2 + bit (x % 2) (y % 2))
    (answers : (a b : ℕ) → a < 2 → b < 2 → bit a b ≡ answer operation a b) where
  machine_on_bits : (k x y : ℕ) → x < 2 ^ k → y < 2 ^ k → machine x y ≡ on_bits operation k x y
  machine_on_bits zero x y h k = ap₂ machine (lt-one h) (lt-one k) ∙ none
  machine_on_bits (suc k) x y h l =
      step x y
      ∙ ap₂ (λ (high low : ℕ). high * 2 + low)
      (machine_on_bits k (x / 2) (y / 2) (omega (arith, pow-suc 2 k)) (omega (arith, pow-suc 2 k)))
      (answers (x % 2) (y % 2) (omega arith) (omega arith))

  machine_on_group : (x y : ℕ) → x < 2 ^ 31 → y < 2 ^ 31 → machine x y ≡ on_group operation x y
  unfolding on_group
  machine_on_group x y h k = machine_on_bits 31 x y h k

-- THEOREM: the machine's XOR, AND and OR of two groups are the operations on them
pub xor-on_group : (x y : ℕ) → x < 2 ^ 31 → y < 2 ^ 31 → bit_xor x y ≡ on_group exclusive x y
xor-on_group =
    machine_on_group exclusive bit_xor differ refl xor_step (by_bits (λ a b. differ a b ≡ answer exclusive a b) refl refl refl refl)

pub and-on_group : (x y : ℕ) → x < 2 ^ 31 → y < 2 ^ 31 → bit_and x y ≡ on_group shared x y
and-on_group = machine_on_group shared bit_and min refl and_step (by_bits (λ a b. min a b ≡ answer shared a b) refl refl refl refl)

pub or-on_group : (x y : ℕ) → x < 2 ^ 31 → y < 2 ^ 31 → bit_or x y ≡ on_group either x y
or-on_group = machine_on_group either bit_or max refl or_step (by_bits (λ a b. max a b ≡ answer either a b) refl refl refl refl)
