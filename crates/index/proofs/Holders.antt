-- In how many values a row has a 1: in none, in one, or in two. Assumes nothing.
use mathlib.Core.Path.{◌≡◌, refl}
use mathlib.Core.Logic.{◌⊎◌, inl, inr, ⊎_elim, by_cases}
use mathlib.Core.List.{List}
use Prim.Native.Nat.{ℕ, zero, suc, ◌+◌, ◌<◌, ◌≤◌}
use native.Mathlib.Decide.{dec_lt}
use native.Mathlib.Omega.{arith}
use Rattle.groups.specs.Rows.{row_at}
use Rattle.memory.specs.Memory.{sizes_of, rows_in, holders_of}
use Rattle.memory.specs.declared.header.Header.{Header}

module _ (header : Header) (words : List ℕ) (row : ℕ) where
  -- the row's bit of a value
  abbrev bit : ℕ → ℕ
  bit value = row_at (rows_in (sizes_of header) words value) row

  abbrev holders : ℕ → ℕ
  holders count = holders_of (sizes_of header) words row count

  -- a value that has it is one of the holders
  pub holder_counts : (count value : ℕ) → value < count → bit value ≤ holders count
  holder_counts zero value h = absurd (omega arith)
  holder_counts (suc count) value h =
      by_cases (dec_lt value count)
      (λ less. omega (arith, holder_counts count value less))
      (λ last. let same : value ≡ count = omega (arith, last) in rw same (omega arith))

  -- two values that have it are two of them
  two-count : (count value other : ℕ) → value < other → other < count → bit value + bit other ≤ holders count
  two-count zero value other h l = absurd (omega arith)
  two-count (suc count) value other h l =
      by_cases (dec_lt other count)
      (λ less. omega (arith, two-count count value other h less))
      (λ last. let same : other ≡ count = omega (arith, last) in rw same (omega (arith, holder_counts count value (omega arith))))

  -- none of the first values has it
  abbrev pub NoHolder : ℕ → Type 0
  NoHolder count = (value : ℕ) → value < count → bit value ≡ 0

  -- and there is then no holder
  pub none_holds : (count : ℕ) → NoHolder count → holders count ≡ 0
  none_holds zero h = refl
  none_holds (suc count) h = omega (arith, none_holds count (λ value less. h value (omega arith)), h count (omega arith))

  -- a holder that is alone
  pub one_holds : (count value : ℕ) → value < count → bit value ≡ 1 → holders count ≤ 1 → holders count ≡ 1
  one_holds count value h e few = omega (arith, holder_counts count value h)

  -- at most one holder: no two values have it, and back
  pub few-apart : (count : ℕ) → holders count ≤ 1
      → (value other : ℕ) → value < count → other < count → (value ≡ other → ⊥) → bit value ≡ 1 → bit other ≡ 1 → ⊥
  few-apart count few value other h l differ v o =
      by_cases (dec_lt value other)
      (λ less. omega (arith, two-count count value other less l))
      (λ more. omega (arith, two-count count other value (omega (arith, more, differ)) h))

  pub apart-few : (count : ℕ)
      → ((value other : ℕ) → value < count → other < count → (value ≡ other → ⊥) → bit value ≡ 1 → bit other ≡ 1 → ⊥)
      → holders count ≤ 1
  apart-few zero h = omega arith
  apart-few (suc count) h =
      by_cases (dec_lt 0 (bit count))
      (λ some. omega (
        arith,
        none_holds count (λ value less.
            let clash : bit value ≡ 1 → ⊥ = λ one. h value count (omega arith) (omega arith) (λ e. omega arith) one (omega arith) in
            omega arith),
      ))
      (λ none. omega (arith, none, apart-few count (λ value other l m. h value other (omega arith) (omega arith))))

  -- one of the first values that has it
  pub record Holder (count : ℕ) : Type 0 where
    pub value : ℕ
    pub below : value < count
    pub has : bit value ≡ 1

  -- there is one, or no value has it
  pub holder_or-none : (count : ℕ) → Holder count ⊎ NoHolder count
  holder_or-none zero = inr (λ value h. absurd (omega arith))
  holder_or-none (suc count) =
      by_cases (dec_lt 0 (bit count))
      (λ some. inl (record { value = count; below = omega arith; has = omega arith }))
      (λ none. ⊎_elim
      (λ holder. inl (record { value = holder.value; below = omega arith; has = holder.has }))
      (λ clear. inr (clear_too count clear (omega (arith, none))))
      (holder_or-none count))
    where
      clear_too : (count : ℕ) → NoHolder count → bit count ≡ 0 → NoHolder (suc count)
      clear_too count clear last value h =
          by_cases (dec_lt value count) (λ less. clear value less) (λ end. let same : value ≡ count = omega (arith, end) in rw same last)
