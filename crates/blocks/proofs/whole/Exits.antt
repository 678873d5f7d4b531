-- The exits of the whole check: each answer is what document 01 says of both lists. Assumes nothing.
use Rattle.std.specs.Prelude.{Some, None}
use mathlib.Core.Path.{◌≡◌, refl, ◌∙◌, ap}
use mathlib.Core.Bool.{Bool, true, false, cond}
use mathlib.Core.List.{List}
use Prim.Native.Nat.{ℕ, ◌*◌, ◌<◌, ◌≤◌}
use native.Mathlib.Omega.{arith}
use lib.ListN.{length}
use Rattle.groups.specs.Rows.{row_limit, ones_in, rows_of}
use Rattle.words.specs.Words.{decode, canonical}
use Rattle.list_check.specs.Inner.{accepted, rejected, check_of}
use Rattle.words.proofs.Canonical.{canonical_parts}
use Rattle.list_check.proofs.check.Verdict.{bad_canonical, whole-canonical}
use Rattle.blocks.specs.Sizes.{value_room, update_room}
use Rattle.blocks.specs.Inner.{Limits, whole_of}
use Rattle.blocks.specs.Block.{value_length, update_length, value_list, update_list}
use Rattle.blocks.specs.Whole.{update_ones, whole_lists}
use Rattle.blocks.specs.declared.sizes.Sizes.{Sizes}
use Rattle.blocks.proofs.WholeLists.{WholeParts, whole_parts, parts_whole}

module _ (sizes : Sizes) (block : List ℕ) where
  not-whole : (WholeParts sizes block → ⊥) → None ≡ whole_of sizes block
  unfolding whole_of
  not-whole broken = go (whole_lists sizes block) refl
    where
      go : (t : Bool) → whole_lists sizes block ≡ t → None ≡ cond (whole_lists sizes block) (Some (update_ones sizes block)) None
      go true e = absurd (broken (whole_parts sizes block e))
      go false e = rw e refl

  is_whole : WholeParts sizes block → Some (update_ones sizes block) ≡ whole_of sizes block
  unfolding whole_of
  is_whole parts = rw (parts_whole sizes block parts) refl

never : {t : Bool} → t ≡ true → t ≡ false → ⊥
never p q = let z : ◌≡◌ {A = ℕ} 0 1 = cc in omega arith

-- ---- each way out; `value` and `update` are V and U

module _ (sizes : Sizes) (block : List ℕ) where
  pub value_exceeds : value_room sizes < value_length block → None ≡ whole_of sizes block
  value_exceeds long = not-whole sizes block (λ parts. omega (arith, parts.value_short))

  pub update_exceeds : update_room sizes < update_length block → None ≡ whole_of sizes block
  update_exceeds long = not-whole sizes block (λ parts. omega (arith, parts.update_short))

  pub value_bad : (value : List ℕ) → value ≡ value_list sizes block → rejected ≡ check_of value sizes.rows → None ≡ whole_of sizes block
  value_bad value is bad = not-whole sizes block (λ parts. never parts.value_canonical (bad_canonical _ sizes.rows (rw is at bad)))

  module _ (update : List ℕ) (is : update ≡ update_list sizes block) where
    pub update_bad : rejected ≡ check_of update sizes.rows → None ≡ whole_of sizes block
    update_bad bad = not-whole sizes block (λ parts. never parts.update_canonical (bad_canonical _ sizes.rows (rw is at bad)))

    module _ (good : accepted ≡ check_of update sizes.rows) where
      update_canonical : canonical sizes.rows (update_list sizes block) ≡ true
      update_canonical = whole-canonical _ sizes.rows (rw is at good)

      -- its ones are few enough to be counted
      pub ones_fit : Limits sizes → 31 * length (decode update) ≤ row_limit
      ones_fit limits = rw is (omega (arith, (canonical_parts sizes.rows (update_list sizes block) update_canonical).long, limits.few_rows))

      module _ (ones : ℕ) (counted : ones ≡ ones_in (rows_of (decode update))) where
        ones_are : ones ≡ update_ones sizes block
        unfolding update_ones
        ones_are = rw is at counted

        pub ones_exceed : sizes.threshold < ones → None ≡ whole_of sizes block
        ones_exceed many = not-whole sizes block (λ parts. omega (arith, parts.few_ones, ones_are))

        pub intact : value_length block ≤ value_room sizes → update_length block ≤ update_room sizes → (value : List ℕ) → value ≡ value_list sizes block
            → accepted ≡ check_of value sizes.rows → ones ≤ sizes.threshold → Some ones ≡ whole_of sizes block
        intact v u value is-value whole few =
            ap Some ones_are
            ∙ is_whole sizes block
            (record {
              value_short = v;
              update_short = u;
              value_canonical = whole-canonical (value_list sizes block) sizes.rows (rw is-value at whole);
              update_canonical = update_canonical;
              few_ones = omega (arith, ones_are);
            })
