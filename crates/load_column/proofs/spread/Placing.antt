-- The group of each value is put at one place of the value's block, a value at a time. Assumes nothing.
use Rattle.std.proofs.Common.{◌≡◌, ℕ, ◌+◌, ◌*◌, ◌<◌, ◌≤◌, Bool, true, false, cond, eqb, List, length, get_or, set, sym, refl, ◌∙◌, arith, length-set, get_or-set_other, get_or-set_same, ne_eqb, eqb-true}
use mathlib.Core.Logic.{by_cases}
use native.Mathlib.Decide.{dec_lt}
use borrow.Author.Tests.{eqb-false}
use Rattle.words.specs.Words.{all_ones}
use Rattle.blocks.proofs.SizeLaws.{place-fits}
use Rattle.load_column.specs.Inner.{Clear, Placed}

-- a place is in one block alone
pub same_block : (block value other place spot : ℕ) → place < block → spot < block → value * block + place ≡ other * block + spot → value ≡ other
same_block block value other place spot p q met =
    by_cases (dec_lt value other)
    (λ less. absurd (omega (arith, met, place-fits block value other less)))
    (λ more.
    by_cases (dec_lt other value)
    (λ less. absurd (omega (arith, met, place-fits block other value less)))
    (λ least. omega (arith, more, least)))

pub place_none : (block place : ℕ) (groups : ℕ → ℕ) (words : List ℕ) → Placed 0 block place groups words words
place_none block place groups words = record { same = refl; put = λ value below. absurd (omega arith); kept = λ i apart. refl }

pub place-more : {value block place : ℕ} {groups : ℕ → ℕ} {words left : List ℕ} → Placed value block place groups words left
    → 0 < block → (at : ℕ) → at ≡ value * block + place → at < length left → (group : ℕ) → group ≡ groups value
    → Placed (value + 1) block place groups words (set left at group)
place-more {value} {block} {place} {groups} {words} {left} p some at here inside group is =
    record {
      same = length-set left at group ∙ p.same;
      put = λ other below.
          by_cases (dec_lt other value)
          (λ before.
          get_or-set_other left at (other * block + place) group 0 (λ met. omega (arith, met, here, place-fits block other value before))
          ∙ p.put other before)
          (λ past.
          let last : other ≡ value = omega (arith, past, below) in
          rw (last, ← here, get_or-set_same left at group 0 inside) is);
      kept = λ i apart.
          get_or-set_other left at i group 0 (λ met. apart value (omega arith) (met ∙ here))
          ∙ p.kept i (λ other below. apart other (omega arith));
    }

-- the same groups by another name
pub place_same : {values block place : ℕ} {groups same : ℕ → ℕ} {words left : List ℕ} → Placed values block place groups words left
    → ((value : ℕ) → value < values → groups value ≡ same value) → Placed values block place same words left
place_same p each = record { same = p.same; put = λ value below. p.put value below ∙ each value below; kept = p.kept }

-- the groups of one value's rows: one word where 0 stands, and none for a byte that is no value
module _ {values block place : ℕ} (byte : ℕ) (words : List ℕ) (some : place < block) (clear : Clear values block place words) where
  pub place-whole : byte < values → byte * block + place < length words
      → Placed values block place (λ value. cond (eqb byte value) all_ones 0) words (set words (byte * block + place) all_ones)
  place-whole below inside =
      record {
        same = length-set words (byte * block + place) all_ones;
        put = λ value h. go value h (eqb byte value) refl;
        kept = λ i apart. get_or-set_other words (byte * block + place) i all_ones 0 (λ met. apart byte below met);
      }
    where
      go : (value : ℕ) → value < values → (held : Bool) → eqb byte value ≡ held
          → get_or (set words (byte * block + place) all_ones) (value * block + place) 0 ≡ cond (eqb byte value) all_ones 0
      go value h true e =
          rw (e, ← eqb-true byte value e, get_or-set_same words (byte * block + place) all_ones 0 inside) refl
      go value h false e =
          rw (
            e,
            get_or-set_other words (byte * block + place) (value * block + place) all_ones 0
                (λ met. eqb-false byte value e (sym (same_block block value byte place place some some met))),
          )
          (clear value h)

  pub place_nowhere : values ≤ byte → Placed values block place (λ value. cond (eqb byte value) all_ones 0) words words
  place_nowhere past =
      record {
        same = refl;
        put = λ value h. rw (ne_eqb byte value (λ met. omega (arith, met, past, h))) (clear value h);
        kept = λ i apart. refl;
      }
