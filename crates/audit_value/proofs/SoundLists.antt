-- What sound lists are: the parts of Audit's check of one value, and back. Assumes nothing.
use mathlib.Core.Path.{◌≡◌, refl}
use mathlib.Core.Bool.{true, and-eq-true_iff}
use mathlib.Core.List.{List}
use Prim.Native.Nat.{ℕ}
use lib.ListN.{drop}
use Rattle.groups.specs.Rows.{all_zero, clear_from}
use Rattle.words.specs.Words.{decode}
use Rattle.blocks.specs.Inner.{Limits}
use Rattle.blocks.specs.Block.{value_length, update_length, value_words, update_words, value_list, update_list, current}
use Rattle.blocks.specs.Whole.{whole_lists}
use Rattle.blocks.specs.Audit.{clear_lists, unused_zero, sound_lists}
use Rattle.blocks.specs.declared.sizes.Sizes.{Sizes}
use Rattle.blocks.proofs.WholeLists.{clear_current}

pub record SoundParts (sizes : Sizes) (issued : ℕ) (block : List ℕ) : Type 0 where
  pub whole : whole_lists sizes block ≡ true
  pub value_clear : clear_from issued (decode (value_list sizes block)) ≡ true
  pub update_clear : clear_from issued (decode (update_list sizes block)) ≡ true
  pub value_unused : all_zero (drop (value_length block) (value_words sizes block)) ≡ true
  pub update_unused : all_zero (drop (update_length block) (update_words sizes block)) ≡ true

module _ (sizes : Sizes) (issued : ℕ) (block : List ℕ) where
  pub sound_parts : sound_lists sizes issued block ≡ true → SoundParts sizes issued block
  unfolding sound_lists clear_lists unused_zero
  sound_parts e =
      let s = (and-eq-true_iff _ (unused_zero sizes block)).0 e in
      let t = (and-eq-true_iff (whole_lists sizes block) (clear_lists sizes issued block)).0 s.0 in
      let c = (and-eq-true_iff (clear_from issued (decode (value_list sizes block))) _).0 t.1 in
      let u = (and-eq-true_iff (all_zero (drop (value_length block) (value_words sizes block))) _).0 s.1 in
      record { whole = t.0; value_clear = c.0; update_clear = c.1; value_unused = u.0; update_unused = u.1 }

  pub parts_sound : SoundParts sizes issued block → sound_lists sizes issued block ≡ true
  unfolding sound_lists clear_lists unused_zero
  parts_sound p = rw (p.whole, p.value_clear, p.update_clear, p.value_unused, p.update_unused) refl

  -- V xor U of sound lists has no bit at row n or above
  pub sound_current : Limits sizes → sound_lists sizes issued block ≡ true → clear_from issued (current sizes block) ≡ true
  sound_current limits e =
      let parts = sound_parts e in
      clear_current sizes limits block parts.whole issued parts.value_clear parts.update_clear
