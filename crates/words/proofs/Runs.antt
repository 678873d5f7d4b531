-- Laws of the runs of groups, from the left: uniform groups in front become one fill, a literal stands by itself. Assumes nothing.
use mathlib.Core.Path.{◌≡◌, refl, ◌∙◌, ap}
use mathlib.Core.Bool.{Bool, true, false, cond}
use mathlib.Core.List.{List, [], ◌∷◌, ◌++◌, map}
use Prim.Native.Nat.{ℕ, suc, zero, ◌+◌, ◌*◌, ◌<◌}
use native.Mathlib.Omega.{arith}
use native.Mathlib.Nat.{zero-add, suc-add}
use lib.Dec.{eqb}
use borrow.Author.Tests.{eqb-true, eqb-false, eq-eqb, ne_eqb}
use Rattle.words.specs.Words.{Run, Run.literal, Run.fill, all_ones, word_of, groups_in, add_fill, add_group, runs_of, encode}
use Rattle.words.specs.Inner.{uniform}

-- some runs with `count` groups of one bit in front
abbrev pub add_fills : ℕ → ℕ → List Run → List Run
add_fills bit zero runs = runs
add_fills bit (suc count) runs = add_fill bit (add_fills bit count runs)

add-uniform : (bit : ℕ) → bit < 2 → (runs : List Run) → add_group (bit * all_ones) runs ≡ add_fill bit runs
unfolding add_group
add-uniform zero h runs = refl
add-uniform (suc zero) h runs = refl
add-uniform (suc (suc bit)) h runs = absurd (omega arith)

pub runs_uniform : (bit count : ℕ) (groups : List ℕ) → bit < 2 → runs_of (uniform bit count ++ groups) ≡ add_fills bit count (runs_of groups)
runs_uniform bit zero groups h = refl
runs_uniform bit (suc count) groups h = add-uniform bit h (runs_of (uniform bit count ++ groups)) ∙ ap (add_fill bit) (runs_uniform bit count groups h)

-- the runs do not begin with a fill of this bit
abbrev pub Apart : ℕ → List Run → Type 0
Apart bit [] = Unit
Apart bit (literal group ∷ runs) = Unit
Apart bit (fill next count ∷ runs) = bit ≡ next → ⊥

fill_apart : (bit : ℕ) (runs : List Run) → Apart bit runs → add_fill bit runs ≡ fill bit 1 ∷ runs
fill_apart bit [] a = refl
fill_apart bit (literal group ∷ runs) a = refl
fill_apart bit (fill next count ∷ runs) a = rw (ne_eqb bit next a) refl

pub fills_apart : (bit count : ℕ) (runs : List Run) → Apart bit runs → add_fills bit (suc count) runs ≡ fill bit (suc count) ∷ runs
fills_apart bit zero runs a = fill_apart bit runs a
fills_apart bit (suc count) runs a = rw (fills_apart bit count runs a) (rw (eq-eqb bit bit refl) refl)

-- ---- the runs with one group more: what holds of every case holds of them

-- a fill of the same bit grows; in front of other runs a new fill begins
pub by_fill : (Holds : List Run → Type 0) (bit : ℕ) (runs : List Run)
    → (Apart bit runs → Holds (fill bit 1 ∷ runs))
    → ((count : ℕ) (rest : List Run) → runs ≡ fill bit count ∷ rest → Holds (fill bit (suc count) ∷ rest))
    → Holds (add_fill bit runs)
by_fill Holds bit [] begins grows = begins tt
by_fill Holds bit (literal group ∷ runs) begins grows = begins tt
by_fill Holds bit (fill next count ∷ runs) begins grows = go (eqb bit next) refl
  where
    go : (t : Bool) → eqb bit next ≡ t → Holds (cond t (fill next (suc count) ∷ runs) (fill bit 1 ∷ fill next count ∷ runs))
    go true e = (rw (eqb-true bit next e) at (grows count runs)) refl
    go false e = begins (eqb-false bit next e)

-- a uniform group goes into a fill, any other is a literal
pub by_group : (Holds : List Run → Type 0) (group : ℕ) (runs : List Run)
    → ((bit : ℕ) → bit < 2 → group ≡ bit * all_ones → Holds (add_fill bit runs))
    → ((group ≡ 0 → ⊥) → (group ≡ all_ones → ⊥) → Holds (literal group ∷ runs))
    → Holds (add_group group runs)
unfolding add_group
by_group Holds group runs filled alone = go (eqb group 0) (eqb group all_ones) refl refl
  where
    go : (s t : Bool) → eqb group 0 ≡ s → eqb group all_ones ≡ t → Holds (cond s (add_fill 0 runs) (cond t (add_fill 1 runs) (literal group ∷ runs)))
    go true t p q = filled 0 (omega arith) (eqb-true group 0 p)
    go false true p q = filled 1 (omega arith) (eqb-true group all_ones q)
    go false false p q = alone (eqb-false group 0 p) (eqb-false group all_ones q)

pub group_apart : (bit group : ℕ) (runs : List Run) → (group ≡ bit * all_ones → ⊥) → Apart bit (add_group group runs)
group_apart bit group runs e =
    by_group (Apart bit) group runs
    (λ other h q. let differ : bit ≡ other → ⊥ = λ z. e (rw z q) in by_fill (Apart bit) other runs (λ a. differ) (λ count rest p. differ))
    (λ p q. tt)

-- ---- the groups of the runs of some groups

groups-add_fill : (bit : ℕ) (runs : List Run) → groups_in (add_fill bit runs) ≡ bit * all_ones ∷ groups_in runs
groups-add_fill bit runs = by_fill (λ l. groups_in l ≡ bit * all_ones ∷ groups_in runs) bit runs (λ a. refl) (λ count rest e. rw e refl)

groups-add_group : (group : ℕ) (runs : List Run) → groups_in (add_group group runs) ≡ group ∷ groups_in runs
groups-add_group group runs = by_group (λ l. groups_in l ≡ group ∷ groups_in runs) group runs (λ bit h e. rw e (groups-add_fill bit runs)) (λ p q. refl)

pub groups_runs : (groups : List ℕ) → groups_in (runs_of groups) ≡ groups
groups_runs [] = refl
groups_runs (group ∷ groups) = groups-add_group group (runs_of groups) ∙ ap (◌∷◌ group) (groups_runs groups)

-- ---- the words of groups, from the left

-- uniform groups that the next group does not lengthen are one word
pub ends_run : (bit count group : ℕ) (rest : List ℕ) → bit < 2 → 0 < count → (group ≡ bit * all_ones → ⊥)
    → encode (uniform bit count ++ group ∷ rest) ≡ word_of (fill bit count) ∷ encode (group ∷ rest)
ends_run bit zero group rest h p e = absurd (omega arith)
ends_run bit (suc count) group rest h p e =
    ap (map word_of) (runs_uniform bit (suc count) (group ∷ rest) h ∙ fills_apart bit count (runs_of (group ∷ rest)) (group_apart bit group (runs_of rest) e))

pub last-run : (bit count : ℕ) → bit < 2 → 0 < count → encode (uniform bit count ++ []) ≡ word_of (fill bit count) ∷ []
last-run bit zero h p = absurd (omega arith)
last-run bit (suc count) h p = ap (map word_of) (runs_uniform bit (suc count) [] h ∙ fills_apart bit count [] tt)

-- a group that is not uniform is a literal
pub literal_word : (group : ℕ) (rest : List ℕ) → (group ≡ 0 → ⊥) → (group ≡ all_ones → ⊥) → encode (group ∷ rest) ≡ group ∷ encode rest
unfolding add_group
literal_word group rest p q = rw (ne_eqb group 0 p, ne_eqb group all_ones q) refl

-- uniform groups of the same bit join
pub joins : (bit m n : ℕ) (rest : List ℕ) → uniform bit m ++ (uniform bit n ++ rest) ≡ uniform bit (m + n) ++ rest
joins bit zero n rest = rw zero-add refl
joins bit (suc m) n rest = rw suc-add (ap (◌∷◌ (bit * all_ones)) (joins bit m n rest))

bits_differ : (bit other : ℕ) → bit < 2 → other < 2 → (bit ≡ other → ⊥) → other * all_ones ≡ bit * all_ones → ⊥
bits_differ bit other h k e p = e (omega arith)

-- uniform groups of the other bit end a run
pub ends_uniform : (bit m other n : ℕ) (rest : List ℕ) → bit < 2 → other < 2 → 0 < m → 0 < n → (bit ≡ other → ⊥)
    → encode (uniform bit m ++ (uniform other n ++ rest)) ≡ word_of (fill bit m) ∷ encode (uniform other n ++ rest)
ends_uniform bit m other zero rest h k p q e = absurd (omega arith)
ends_uniform bit m other (suc n) rest h k p q e = ends_run bit m (other * all_ones) (uniform other n ++ rest) h p (bits_differ bit other h k e)
