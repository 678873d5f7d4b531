-- The room of an index: the numbers that are within their limits, and either answer. Assumes nothing.
use mathlib.Core.Path.{◌≡◌, refl}
use mathlib.Core.Bool.{Bool, true, false}
use Prim.Native.Nat.{ℕ, ◌*◌}
use native.Mathlib.Omega.{arith}
use borrow.Author.Tests.{le-leb}
use Rattle.answers.specs.Numbers.{number_of}
use Rattle.answers.specs.declared.Refusal.TheVariants.{BadHeader}
use Rattle.blocks.specs.Sizes.{sizes_for}
use Rattle.blocks.specs.declared.sizes.Sizes.{Sizes}
use Rattle.memory.specs.Entry.{header_for}
use Rattle.memory.specs.Memory.{limits, within_limits}
use Rattle.memory.proofs.Headers.{Within, within}
use Rattle.upbit.specs.Room.{room_outcome}
use Rattle.upbit.specs.declared.numbers.RoomNumbers.{RoomNumbers}

module _ (rows values threshold spacing : ℕ) {holds : Bool} (told : holds ≡ limits rows values threshold spacing) where
  pub outside : {number : ℕ} → number ≡ number_of BadHeader → holds ≡ false
      → ◌≡◌ {A = RoomNumbers} (record { number = number; words = 0; fences = 0 }) (room_outcome rows values threshold spacing)
  unfolding room_outcome
  outside n e = rw (n, ← told, e) refl

  module _ (e : holds ≡ true) where
    within_header : within_limits (header_for rows 0 values threshold spacing) ≡ true
    unfolding within_limits
    within_header = rw (← told, e, le-leb 0 rows (omega arith)) refl

    -- the numbers are those of the header of an index that has no rows yet
    pub numbers : Within (header_for rows 0 values threshold spacing)
    numbers = within (header_for rows 0 values threshold spacing) within_header

    pub inside : {sizes : Sizes} → sizes ≡ sizes_for rows threshold spacing
        → ◌≡◌ {A = RoomNumbers} (record { number = 0; words = values * sizes.block; fences = values * sizes.fences })
        (room_outcome rows values threshold spacing)
    unfolding room_outcome
    inside s = rw (s, ← told, e) refl
