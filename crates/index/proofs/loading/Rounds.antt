-- Loading: the blocks of all values are written, and then the fences of one value a round, which are those made right behind its block. Assumes nothing.
use mathlib.Core.Path.{◌≡◌, refl, ◌∙◌, sym}
use mathlib.Core.Bool.{true}
use mathlib.Core.List.{List}
use Prim.Native.Nat.{ℕ, zero, suc, ◌+◌, ◌*◌, ◌<◌, ◌≤◌}
use native.Mathlib.Nat.{suc-mul}
use native.Mathlib.Omega.{arith}
use lib.ListN.{length}
use Rattle.blocks.specs.Sizes.{value_room, block_size}
use Rattle.blocks.specs.Inner.{Limits}
use Rattle.blocks.specs.Block.{value_length}
use Rattle.blocks.proofs.SizeLaws.{place-fits}
use Rattle.load_list.specs.Column.{loaded}
use Rattle.load_list.proofs.Columns.{whole-loaded}
use Rattle.memory.specs.Inner.{Planned, Fenced}
use Rattle.memory.specs.Memory.{Memory, memory_of, sizes_of, block_at}
use Rattle.load_column.specs.Inner.{loaded_words}
use Rattle.change_value.specs.Change.{whole, put_block, renewed}
use Rattle.change_value.proofs.Changing.{whole-fits}
use Rattle.index.specs.Calls.{loaded_in}
use Rattle.memory.specs.declared.header.Header.{Header}
use Rattle.block_read.specs.declared.fence.Fence.{Fence}
use Rattle.blocks.specs.declared.sizes.Sizes.{Sizes}
use Rattle.load_column.proofs.Loading.{loads_none, loads_next, loads_block}
use Rattle.memory.proofs.Places.{one_more, numbers, limits, header-limits, fenced}

module _ {header : Header} {sizes : Sizes} (words : List ℕ) (fences : List Fence) (column : List ℕ)
    (is : Planned header sizes (length words) (length fences)) (few : length column ≤ header.rows) where
  abbrev memory : Memory
  memory = memory_of words fences

  -- the memory with the first values loaded
  abbrev pub loaded_to : ℕ → Memory
  loaded_to value = loaded_in (sizes_of header) column value memory

  pub load_asks : Limits sizes × (header.values * block_size sizes ≤ length words) × (header.values ≤ 64) × (length column ≤ sizes.rows)
  load_asks = (limits is, rw is.planned is.words_lent, (numbers is).few_values, rw is.planned few)

  -- ---- the words

  words_to : (value : ℕ) → (loaded_to value).words ≡ loaded_words (sizes_of header) column value words
  unfolding put_block
  words_to zero = sym (loads_none (sizes_of header) (header-limits is) column few words)
  words_to (suc value) = rw (words_to value) (loads_next (sizes_of header) (header-limits is) column few words value)

  -- the block that was put last is read back
  last_block : (value : ℕ) → value < header.values → block_at (sizes_of header) (loaded_to (suc value)).words value ≡ loaded (sizes_of header) value column
  last_block value below =
      let size = block_size (sizes_of header) in
      let room : suc value * size ≤ length words = omega (arith, suc-mul value size, place-fits size value header.values below, is.words_lent) in
      rw (words_to (suc value)) (loads_block (sizes_of header) (header-limits is) column few words (suc value) room value (omega arith))

  module _ (left : List ℕ) (long : length left ≡ length words) (loads : left ≡ loaded_words sizes column header.values words) where
    pub words-done : left ≡ (loaded_to header.values).words
    words-done = loads ∙ rw is.planned (sym (words_to header.values))

    -- ---- a round

    module _ (value : ℕ) (below : value < header.values) (records : List Fence) where
      block_is : block_at (sizes_of header) left value ≡ loaded (sizes_of header) value column
      block_is = rw (loads, is.planned) (loads_block (sizes_of header) (header-limits is) column few words header.values is.words_lent value below)

      intact : whole sizes left value ≡ true
      unfolding whole
      intact = rw (is.planned, block_is) (whole-loaded (sizes_of header) (header-limits is) value column few)

      pub renew_asks : length records ≡ length fences
          → Fenced sizes (length left) (length records) value × (value_length (block_at sizes left value) ≤ value_room sizes)
      renew_asks as_many = (rw (long, as_many) (fenced is value below), whole-fits sizes left value intact)

      pub renews : records ≡ (loaded_to value).fences → (remade : List Fence) → remade ≡ renewed sizes left records value
          → remade ≡ (loaded_to (value + 1)).fences
      unfolding renewed
      renews fences-are remade makes = makes ∙ rw (is.planned, block_is, fences-are, one_more value, last_block value below) refl
