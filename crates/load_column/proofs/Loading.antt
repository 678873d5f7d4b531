-- The blocks of several values written one after the other, and the words that a load leaves. Assumes nothing.
use Rattle.std.proofs.Common.{◌≡◌, ℕ, zero, suc, ◌+◌, ◌-◌, ◌*◌, ◌<◌, ◌≤◌, List, ◌++◌, length, take, drop, sym, refl, ap, ◌∙◌, ap₂, inl, append_assoc, suc-mul, zero-add, zero-mul, add-one, arith, length-append, drop-drop, take_at}
use mathlib.Core.Logic.{by_cases}
use native.Mathlib.Decide.{dec_lt}
use lib.Seq.{drop-append-add}
use Rattle.groups.specs.Rows.{groups_for}
use Rattle.blocks.specs.Sizes.{value_room, block_size}
use Rattle.blocks.specs.Inner.{Limits}
use Rattle.blocks.specs.Block.{part, write, value_words}
use Rattle.blocks.specs.declared.sizes.Sizes.{Sizes}
use Rattle.blocks.proofs.Parts.{part_slice, take_part, part-part, write-lent, length-write, part-write, part_apart}
use Rattle.blocks.proofs.SizeLaws.{places_apart}
use Rattle.load_list.specs.Column.{loaded}
use Rattle.load_list.specs.Inner.{packed_block}
use Rattle.load_list.proofs.Columns.{length-loaded, packed-loaded, length-packed_block}
use Rattle.memory.specs.Memory.{block_at}
use Rattle.load_column.specs.Inner.{Spread, blocks_to, packed_words, loaded_words}

-- ---- blocks one after the other

-- a write behind what was written in front
write_on : (words front new : List ℕ) → write (write words 0 front) (length front) new ≡ write words 0 (front ++ new)
unfolding write
write_on words front new =
    rw (
      zero-add,
      zero-add,
      take_at front (drop (length front) words) (length front) refl,
      drop-append-add front (drop (length front) words) (length new),
      length-append front new,
      append_assoc,
      drop-drop,
    )
    refl

pub same_blocks : (one other : ℕ → List ℕ) (values : ℕ) → ((value : ℕ) → value < values → one value ≡ other value) → blocks_to one values ≡ blocks_to other values
same_blocks one other zero each = refl
same_blocks one other (suc values) each = ap₂ ◌++◌ (same_blocks one other values (λ value below. each value (omega arith))) (each values (omega arith))

module _ (size : ℕ) (block : ℕ → List ℕ) (sized : (value : ℕ) → length (block value) ≡ size) where
  pub length-blocks_to : (values : ℕ) → length (blocks_to block values) ≡ values * size
  length-blocks_to zero = sym (zero-mul size)
  length-blocks_to (suc values) = length-append (blocks_to block values) (block values) ∙ rw (length-blocks_to values, sized values, suc-mul) refl

  module _ (words : List ℕ) where
    -- the next block is written
    pub next-block : (value : ℕ) → write (write words 0 (blocks_to block value)) (value * size) (block value) ≡ write words 0 (blocks_to block (suc value))
    next-block value = rw (← length-blocks_to value) (write_on words (blocks_to block value) (block value))

    module _ (values : ℕ) (lent : values * size ≤ length words) where
      fits : 0 + length (blocks_to block values) ≤ length words
      fits = omega (arith, length-blocks_to values)

      pub length_blocks : length (write words 0 (blocks_to block values)) ≡ length words
      length_blocks = length-write words 0 (blocks_to block values) fits

      -- the block behind those written is as it was
      pub block-behind : part (write words 0 (blocks_to block values)) (values * size) size ≡ part words (values * size) size
      block-behind = part_apart words 0 (blocks_to block values) fits (values * size) size (inl (omega (arith, length-blocks_to values)))

    -- each block written is read back
    pub block_among : (values : ℕ) → values * size ≤ length words → (value : ℕ) → value < values
        → part (write words 0 (blocks_to block values)) (value * size) size ≡ block value
    block_among zero lent value below = absurd (omega arith)
    block_among (suc values) lent value below =
        let before : values * size + size ≤ length words = omega (arith, lent, suc-mul values size) in
        let front = write words 0 (blocks_to block values) in
        let long = length_blocks values (omega (arith, before)) in
        let inside : values * size + length (block values) ≤ length front = omega (arith, sized values, long, before) in
        rw (← next-block values)
        (by_cases (dec_lt value values)
        (λ less.
        part_apart front (values * size) (block values) inside (value * size) size
        (rw (sized values) (places_apart size values value (λ same. omega (arith, same, less))))
        ∙ block_among values (omega (arith, before)) value less)
        (λ past.
        let last : value ≡ values = omega (arith, past, below) in
        rw last (rw (sized values) at (part-write front (values * size) (block values) inside))))

-- ---- a load's blocks

-- the groups that stand first in V's room of a block among the words
filled_part : (sizes : Sizes) (filled : ℕ) (words : List ℕ) (at : ℕ) → filled ≤ value_room sizes
    → take filled (value_words sizes (part words at (block_size sizes))) ≡ part words (at + 2) filled
unfolding value_words
filled_part sizes filled words at few =
    rw (part-part words at (block_size sizes) 2 (value_room sizes) (omega arith)) (take_part words (at + 2) (value_room sizes) filled few)

module _ (sizes : Sizes) (limits : Limits sizes) where
  abbrev size : ℕ
  size = block_size sizes

  -- packed from the groups that stand first in each V's room
  module _ (filled : ℕ) (few : filled ≤ value_room sizes) (words : List ℕ) where
    abbrev packed_at : ℕ → List ℕ
    packed_at value = packed_block sizes filled (block_at sizes words value)

    sized_at : (value : ℕ) → length (packed_at value) ≡ block_size sizes
    sized_at value = length-packed_block sizes limits filled few (block_at sizes words value)

    pub packs_none : words ≡ packed_words sizes filled 0 words
    unfolding packed_words write
    packs_none = refl

    module _ (value : ℕ) (lent : value * block_size sizes ≤ length words) where
      pub length_packs : length (packed_words sizes filled value words) ≡ length words
      unfolding packed_words
      length_packs = length_blocks size packed_at sized_at words value lent

      -- the next block is lent, and comes back packed
      pub packs_next : (now : List ℕ) → now ≡ packed_words sizes filled value words → (at end : ℕ) → at ≡ value * block_size sizes → end - at ≡ block_size sizes
          → (new : List ℕ) → new ≡ packed_block sizes filled (take (end - at) (drop at now))
          → take at now ++ (new ++ drop (end - at) (drop at now)) ≡ packed_words sizes filled (value + 1) words
      unfolding packed_words block_at
      packs_next now is at end here many new packs =
          let lends : take (end - at) (drop at now) ≡ block_at sizes words value =
          rw (part_slice now (value * size) size at end here many, is) (block-behind size packed_at sized_at words value lent)
          in
          let packed : new ≡ packed_at value = packs ∙ ap (packed_block sizes filled) lends in
          rw (many, here, packed, write-lent now (value * size) size (packed_at value) (sized_at value), is, add-one value)
          (next-block size packed_at sized_at words value)

  module _ (column : List ℕ) (few : length column ≤ sizes.rows) where
    abbrev loaded_at : ℕ → List ℕ
    loaded_at value = loaded sizes value column

    sized : (value : ℕ) → length (loaded_at value) ≡ block_size sizes
    sized value = length-loaded sizes limits value column few

    module _ (words : List ℕ) where
      pub loads_none : loaded_words sizes column 0 words ≡ words
      unfolding loaded_words write
      loads_none = refl

      -- THEOREM: the words of a load are those with one block after the other put
      pub loads_next : (value : ℕ)
          → write (loaded_words sizes column value words) (value * block_size sizes) (loaded sizes value column) ≡ loaded_words sizes column (suc value) words
      unfolding loaded_words
      loads_next value = next-block size loaded_at sized words value

      module _ (values : ℕ) (lent : values * block_size sizes ≤ length words) where
        -- THEOREM: each value has its block
        pub loads_block : (value : ℕ) → value < values
            → block_at sizes (loaded_words sizes column values words) value ≡ loaded sizes value column
        unfolding loaded_words block_at
        loads_block value below = block_among size loaded_at sized words values lent value below

    -- packed from the groups that a pass over the column left
    pub spread_packed : (values : ℕ) (words left : List ℕ) → Spread (block_size sizes) values column words left
        → packed_words sizes (groups_for (length column)) values left ≡ loaded_words sizes column values words
    unfolding packed_words loaded_words write block_at
    spread_packed values words left spread =
        let filled = groups_for (length column) in
        let fits : filled ≤ value_room sizes = omega (arith, few, limits.groups_are, limits.value_room_is) in
        let same = same_blocks (packed_at filled fits left) loaded_at values
        (λ value below.
        packed-loaded sizes limits value column few (block_at sizes left value)
        (filled_part sizes filled left (value * block_size sizes) fits ∙ spread.groups value below))
        in
        rw (same, length-blocks_to size loaded_at sized values, zero-add, spread.behind) refl
