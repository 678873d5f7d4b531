-- The all-zero list: its one word, its groups, and that it is whole and has no ones. Assumes nothing.
use mathlib.Core.Path.{◌≡◌, refl}
use mathlib.Core.Bool.{true}
use mathlib.Core.List.{[], ◌∷◌, append-nil}
use Prim.Native.Nat.{ℕ, zero, suc, ◌*◌, ◌-◌, ◌≤◌}
use native.Mathlib.Nat.{mul-zero}
use native.Mathlib.Omega.{arith}
use lib.ListN.{length, take, set, replicate, length-replicate}
use borrow.Author.Tests.{lt-ltb}
use Rattle.groups.specs.Rows.{rows_of, ones_in, all_zero, clear_from}
use Rattle.words.specs.Words.{Run.fill, word_of, run_of, decode, canonical}
use Rattle.words.proofs.Canonical.{parts_canonical}
use Rattle.words.proofs.Uniform.{rows_of-uniform}
use Rattle.words.proofs.Ones.{ones_in-replicate, ones_in-none}
use Rattle.words.proofs.Round.{read_written}
use Rattle.lists.proofs.OneRow.{encode-zeros}
use Rattle.blocks.specs.Sizes.{update_room}
use Rattle.blocks.specs.Inner.{Limits}
use Rattle.blocks.specs.Block.{padded, zero_list}
use Rattle.blocks.specs.declared.sizes.Sizes.{Sizes}
use Rattle.blocks.proofs.Rooms.{drop-zeros, padded_first}

all_zero_lem : (count : ℕ) → all_zero (replicate count 0) ≡ true
all_zero_lem zero = refl
all_zero_lem (suc count) = all_zero_lem count

zeros_clear : (row groups : ℕ) → clear_from row (replicate groups 0) ≡ true
unfolding clear_from
zeros_clear row groups = rw (rows_of-uniform 0 groups (omega arith), drop-zeros row (31 * groups)) (all_zero_lem (31 * groups - row))

module _ (sizes : Sizes) (limits : Limits sizes) where
  -- THEOREM: it is one fill
  pub zero_list_word : zero_list sizes ≡ word_of (fill 0 sizes.groups) ∷ []
  unfolding zero_list
  zero_list_word = encode-zeros sizes.groups (omega arith)

  pub length-zero_list : length (zero_list sizes) ≡ 1
  length-zero_list = rw zero_list_word refl

  -- in U's room, as it is made: one word stored in front of zeros
  pub zero_list_room : (word zeros : ℕ) → word ≡ word_of (fill 0 sizes.groups) → update_room sizes ≤ zeros
      → take (update_room sizes) (set (replicate zeros 0) 0 word) ≡ padded (update_room sizes) (zero_list sizes)
  zero_list_room word zeros e large = rw (zero_list_word, ← e) (padded_first (update_room sizes) word zeros (omega arith) large)

  zero_list-run : run_of (word_of (fill 0 sizes.groups)) ≡ fill 0 sizes.groups
  zero_list-run = read_written (fill 0 sizes.groups) (omega arith, omega arith)

  -- THEOREM: all its groups are zero
  pub decode-zero_list : decode (zero_list sizes) ≡ replicate sizes.groups 0
  decode-zero_list = rw (zero_list_word, zero_list-run) (append-nil (replicate sizes.groups 0))

  pub canonical-zero_list : canonical sizes.rows (zero_list sizes) ≡ true
  canonical-zero_list =
      parts_canonical sizes.rows (zero_list sizes)
      (record {
        form = rw (zero_list_word, zero_list-run, lt-ltb 0 sizes.groups (omega arith)) refl;
        long = rw (decode-zero_list, length-replicate) limits.groups_are;
        clear = rw decode-zero_list (zeros_clear sizes.rows sizes.groups);
      })

  pub ones-zero_list : ones_in (rows_of (decode (zero_list sizes))) ≡ 0
  ones-zero_list = rw (decode-zero_list, ones_in-replicate sizes.groups 0, ones_in-none) (mul-zero sizes.groups)
