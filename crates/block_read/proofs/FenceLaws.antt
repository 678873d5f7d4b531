-- Laws of fences: the word that a fence leads to, the one fence that leads there, and the way from one fence to a later one. Assumes nothing.
use mathlib.Core.Path.{◌≡◌, refl, ◌∙◌, ap, ap₂, sym}
use mathlib.Core.Logic.{by_cases}
use mathlib.Core.List.{List}
use Prim.Native.Nat.{ℕ, zero, suc, ◌+◌, ◌*◌, ◌-◌, ◌<◌, ◌≤◌}
use native.Mathlib.Decide.{dec_lt}
use native.Mathlib.Nat.{mul-le-mul_right}
use native.Mathlib.Omega.{arith}
use lib.ListN.{length, take, drop, length-take}
use lib.Seq.{take-take}
use Rattle.words.specs.Words.{span, decode}
use Rattle.words.proofs.Forms.{run_at, length_split, length_upto, decode_end}
use Rattle.blocks.specs.Block.{value_length, value_words, value_list}
use Rattle.block_read.specs.Fences.{fence_of, locate_from, fence_at}
use Rattle.block_read.specs.declared.fence.Fence.{Fence}
use Rattle.blocks.specs.declared.sizes.Sizes.{Sizes}
use Rattle.block_read.proofs.fence.Steps.{ends, covers, passes}

-- a fence to a word of a list, or to its end, that a search for the group may start from
pub record Stands (list : List ℕ) (group : ℕ) (fence : Fence) : Type 0 where
  pub within : fence.place ≤ length list
  pub begins : fence.first ≡ length (decode (take fence.place list))
  pub early : fence.first ≤ group

-- a fence to the word that covers the group
pub record Leads (list : List ℕ) (group : ℕ) (fence : Fence) : Type 0 where
  pub stands : Stands list group fence
  pub inside : fence.place < length list
  pub covered : group < fence.first + span (run_at list fence.place)

-- a search may start from the first word
pub stands_first : (list : List ℕ) (group : ℕ) → Stands list group (fence_of 0 0)
stands_first list group = record { within = omega arith; begins = refl; early = omega arith }

-- a later group may be searched from there too
pub stands_later : {list : List ℕ} {group : ℕ} {fence : Fence} (later : ℕ) → group ≤ later → Stands list group fence → Stands list later fence
stands_later later h s = record { within = s.within; begins = s.begins; early = omega arith }

-- a fence in V is one that the code may go on from
pub stands_place : (sizes : Sizes) (block : List ℕ) (group : ℕ) (fence : Fence) → Stands (value_list sizes block) group fence
    → fence.place ≤ value_length block
unfolding value_list
stands_place sizes block group fence s = omega (arith, s.within, length-take (value_length block) (value_words sizes block))

-- ---- the word that a search leads to

module _ (list : List ℕ) (group : ℕ) where
  -- where a search has come to: past the last word, or to the word that covers the group
  record Reached (fence : Fence) : Type 0 where
    pub stands : Stands list group fence
    pub covered : fence.place < length list → group < fence.first + span (run_at list fence.place)

  reached : (left place first : ℕ) → length list - place ≡ left → Stands list group (fence_of place first)
      → Reached (locate_from list (fence_of place first) group)
  reached zero place first l s = rw (ends list place place first group (omega arith)) (record { stands = s; covered = λ h. absurd (omega arith) })
  reached (suc left) place first l s =
      let inside : place < length list = omega arith in
      let next = first + span (run_at list place) in
      by_cases (dec_lt group next)
      (λ near. rw (covers list place place first group inside near) (record { stands = s; covered = λ _. near }))
      (λ far. rw (passes list place place first group inside (omega (arith, far)))
      (reached left (place + 1) next (omega arith)
      (record { within = omega arith; begins = omega (arith, length_upto list place inside); early = omega (arith, far) })))

  module _ (fence : Fence) (s : Stands list group fence) where
    abbrev found : Fence
    found = locate_from list fence group

    came : Reached found
    came = reached (length list - fence.place) fence.place fence.first refl s

    split : length (decode list) ≡ found.first + length (decode (drop found.place list))
    split = length_split list found.place ∙ rw (← came.stands.begins) refl

    at_end : length list ≤ found.place → found.first ≡ length (decode list)
    at_end h = omega (arith, split, ap length (decode_end list found.place h))

    -- the next search may start from the word found
    pub located_stands : Stands list group (locate_from list fence group)
    located_stands = came.stands

    -- THEOREM: a search leads to the word that covers the group
    pub located_leads : group < length (decode list) → Leads list group (locate_from list fence group)
    located_leads h =
        by_cases (dec_lt found.place (length list))
        (λ inside. record { stands = came.stands; inside = inside; covered = came.covered inside })
        (λ end. absurd (omega (arith, at_end (omega (arith, end)), came.stands.early)))

-- ---- one fence leads to the word that covers a group

module _ {list : List ℕ} {group : ℕ} where
  not-before : {fence other : Fence} → Leads list group fence → Leads list group other → fence.place < other.place → ⊥
  not-before {fence} {other} l m h =
      let upto : length (decode (take (fence.place + 1) (take other.place list))) ≡ fence.first + span (run_at list fence.place) =
      rw (take-take (fence.place + 1) other.place list (omega arith)) (omega (arith, length_upto list fence.place l.inside, l.stands.begins)) in
      omega (arith, length_split (take other.place list) (fence.place + 1), m.stands.begins, m.stands.early, l.covered)

  -- THEOREM: two cursors that lead to the word which covers the same group are equal
  pub leads_same : {fence other : Fence} → Leads list group fence → Leads list group other → fence ≡ other
  leads_same {fence} {other} l m = ap₂ fence_of place (l.stands.begins ∙ rw place (sym m.stands.begins))
    where
      place : fence.place ≡ other.place
      place = omega (arith, not-before l m, not-before m l)

-- ---- one pass gives all fences

-- THEOREM: from the word found for a group the search for a later group goes on as from the start
pub located_later : (list : List ℕ) (fence : Fence) (group later : ℕ) → group ≤ later
    → locate_from list (locate_from list fence group) later ≡ locate_from list fence later
located_later list fence group later h = go (length list - fence.place) fence.place fence.first refl
  where
    go : (left place first : ℕ) → length list - place ≡ left
        → locate_from list (locate_from list (fence_of place first) group) later ≡ locate_from list (fence_of place first) later
    go zero place first l = rw (ends list place place first group (omega arith)) refl
    go (suc left) place first l =
        let inside : place < length list = omega arith in
        let next = first + span (run_at list place) in
        by_cases (dec_lt group next)
        (λ near. rw (covers list place place first group inside near) refl)
        (λ far. rw (passes list place place first group inside (omega (arith, far)), passes list place place first later inside (omega (arith, far)))
        (go left (place + 1) next (omega arith)))

-- ---- fences

module _ (sizes : Sizes) (list : List ℕ) (j : ℕ) where
  pub fence_stands : Stands list (j * sizes.spacing) (fence_at sizes list j)
  unfolding fence_at
  fence_stands = located_stands list (j * sizes.spacing) (fence_of 0 0) (stands_first list (j * sizes.spacing))

  -- THEOREM: a fence leads to the word that covers its group
  pub fence_leads : j * sizes.spacing < length (decode list) → Leads list (j * sizes.spacing) (fence_at sizes list j)
  unfolding fence_at
  fence_leads h = located_leads list (j * sizes.spacing) (fence_of 0 0) (stands_first list (j * sizes.spacing)) h

  -- THEOREM: from a fence the search for the group of a later one finds that fence
  pub fence_later : (k : ℕ) → j ≤ k → locate_from list (fence_at sizes list j) (k * sizes.spacing) ≡ fence_at sizes list k
  unfolding fence_at
  fence_later k h = located_later list (fence_of 0 0) (j * sizes.spacing) (k * sizes.spacing) (mul-le-mul_right sizes.spacing h)
