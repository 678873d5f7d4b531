-- What an index of R, d, T and G needs: d x B words and d x F fences; BAD_HEADER and none where a number is outside its limits.
use Rattle.std.specs.Prelude.{cond, ℕ, ◌*◌}
use Rattle.answers.specs.Numbers.{number_of}
use Rattle.answers.specs.declared.Refusal.TheVariants.{BadHeader}
use Rattle.blocks.specs.Sizes.{sizes_for, block_size, fence_count}
use Rattle.memory.specs.Memory.{limits}
use Rattle.upbit.specs.declared.numbers.RoomNumbers.{RoomNumbers}

unfoldable pub room_outcome : ℕ → ℕ → ℕ → ℕ → RoomNumbers
room_outcome rows values threshold spacing =
    cond (limits rows values threshold spacing)
    (record {
      number = 0;
      words = values * block_size (sizes_for rows threshold spacing);
      fences = values * fence_count (sizes_for rows threshold spacing);
    })
    (record { number = number_of BadHeader; words = 0; fences = 0 })
