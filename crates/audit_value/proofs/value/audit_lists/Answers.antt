-- `audit_lists` meets its contract: sound lists first, and only then the rows. Assumes nothing.
use mathlib.Core.Path.{◌≡◌, refl, ap, sym, ◌∙◌}
use mathlib.Core.Bool.{true, false}
use Prim.Native.Nat.{ℕ}
use native.Mathlib.Omega.{arith}
use lib.ListN.{length}
use Rattle.audit_value.proofs.SoundLists.{sound_parts}
use Rattle.memory.specs.Memory.{block_at}
use Rattle.memory.proofs.Places.{length-block_at}
use Rattle.audit_value.proofs.value.audit_lists.Goals as goal

never : {P : Type 0} → false ≡ true → P
never e = absurd (let z : ◌≡◌ {A = ℕ} 0 1 = cc in omega arith)

pub block_of-block-requires : goal.block_of-block-requires
block_of-block-requires c = (c.requires.0)

pub sound_lists-requires : goal.sound_lists-requires
sound_lists-requires c =
    let long = ap length c.block_of-block.ensures ∙ length-block_at c.args.sizes c.args.words.now c.args.value c.requires.0 in
    (long, c.requires.1)

pub returns-then-not-sound_lists : goal.returns-then-not-sound_lists
returns-then-not-sound_lists c =
    let listed = rw c.block_of-block.ensures at c.sound_lists.ensures in
    (rw (sym listed ∙ c.if-not-sound_lists.true) refl, never)

pub take_value-requires : goal.take_value-requires
take_value-requires c =
    let long = ap length c.block_of-block.ensures ∙ length-block_at c.args.sizes c.args.words.now c.args.value c.requires.0 in
    let listed = rw c.block_of-block.ensures at c.sound_lists.ensures in
    let a = c.args in
    let is-sound = sym listed ∙ c.if-not-sound_lists.false in
    let whole = (sound_parts a.sizes a.issued (block_at a.sizes a.words.now a.value) is-sound).whole in
    (long, rw c.block_of-block.ensures whole, c.requires.2, c.requires.3)

pub returns : goal.returns
returns c =
    let listed = rw c.block_of-block.ensures at c.sound_lists.ensures in
    let is-sound = sym listed ∙ c.if-not-sound_lists.false in
    let takes = rw c.block_of-block.ensures at c.take_value.ensures in
    rw is-sound (takes.0, λ free. takes.1)
