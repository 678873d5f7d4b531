-- What the answer of the whole check says of the two lists of a block. Assumes nothing.
use Rattle.std.specs.Prelude.{Some, None}
use mathlib.Core.Path.{◌≡◌, refl}
use mathlib.Core.Bool.{Bool, true, false, cond}
use mathlib.Core.List.{List}
use Prim.Native.Nat.{ℕ}
use Rattle.blocks.specs.Whole.{update_ones, whole_lists}
use Rattle.blocks.specs.Inner.{whole_of}
use Rattle.blocks.specs.declared.sizes.Sizes.{Sizes}

module _ (sizes : Sizes) (block : List ℕ) where
  -- lists in which the check finds a fault are not whole
  pub faulty_whole : None ≡ whole_of sizes block → whole_lists sizes block ≡ false
  unfolding whole_of
  faulty_whole = go (whole_lists sizes block)
    where
      go : (t : Bool) → None ≡ cond t (Some (update_ones sizes block)) None → t ≡ false
      go true e = cc
      go false e = refl

  module _ (ones : ℕ) (finds : Some ones ≡ whole_of sizes block) where
    -- those that it finds intact are
    pub intact-whole : whole_lists sizes block ≡ true
    unfolding whole_of
    intact-whole = go (whole_lists sizes block) finds
      where
        go : (t : Bool) → Some ones ≡ cond t (Some (update_ones sizes block)) None → t ≡ true
        go true e = refl
        go false e = cc

    -- and U has as many ones as the check counts
    pub intact-ones : ones ≡ update_ones sizes block
    unfolding whole_of
    intact-ones = go (whole_lists sizes block) finds
      where
        go : (t : Bool) → Some ones ≡ cond t (Some (update_ones sizes block)) None → ones ≡ update_ones sizes block
        go true e = cc
        go false e = cc
