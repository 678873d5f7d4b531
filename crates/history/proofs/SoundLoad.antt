-- An accepted load: the index is sound, and each value has the rows of the column that hold it. Assumes nothing.
use mathlib.Core.Path.{◌≡◌, refl, ◌∙◌, sym}
use mathlib.Core.Bool.{true}
use mathlib.Core.Logic.{by_cases}
use mathlib.Core.List.{List}
use Prim.Native.Nat.{ℕ, zero, suc, ◌<◌, ◌≤◌}
use native.Mathlib.Decide.{dec_lt}
use native.Mathlib.Omega.{arith}
use lib.ListN.{length, get_or}
use borrow.Author.Tests.{le-leb, ltb-false, not-false}
use Rattle.answers.proofs.Accepted.{Passes}
use Rattle.groups.specs.Rows.{row_at}
use Rattle.groups.proofs.Tail.{clear_from-row_at}
use Rattle.words.specs.Words.{decode}
use Rattle.blocks.specs.Inner.{Limits}
use Rattle.blocks.specs.declared.sizes.Sizes.{Sizes}
use Rattle.load_list.specs.Column.{groups_with, list_for, loaded}
use Rattle.load_list.proofs.Columns.{row-held, row-past, length-list_for, clear_list_for, canonical-list_for, length-loaded, current-loaded}
use Rattle.memory.specs.Entry.{valid_column, no_header}
use Rattle.memory.specs.Inner.{Planned}
use Rattle.memory.specs.Memory.{Memory, limits, within_limits, sizes_of, lent, block_at, rows_in}
use Rattle.memory.specs.Outcomes.{After, made}
use Rattle.memory.specs.declared.header.Header.{Header}
use Rattle.memory.proofs.Places.{header-limits, fenced}
use Rattle.change_value.proofs.Changing.{block_puts}
use Rattle.index.specs.Soundness.{SoundLists, FencesRight, Sound}
use Rattle.index.specs.Calls.{loaded_in, load_header, load_checks, load_after}
use Rattle.history.proofs.Accepting.{change_accepted, passes_change}
use Rattle.history.proofs.Changes.{replaced, others_right}
use Rattle.history.proofs.SoundBlocks.{emptied_sound}
use Rattle.history.proofs.SoundTests.{lent_planned}
use Rattle.history.proofs.Tests.{one_exactly, of_each}

-- ---- the first values of a column

module _ (header : Header) (column : List ℕ) (memory : Memory) (is : Planned header (sizes_of header) (length memory.words) (length memory.fences))
    (few : length column ≤ header.rows) where
  abbrev sizes : Sizes
  sizes = sizes_of header

  limits_hold : Limits sizes
  limits_hold = header-limits is

  -- as many words and fences, and the first values have their blocks, with right fences
  record Loaded (count : ℕ) (after : Memory) : Type 0 where
    pub long_words : length after.words ≡ length memory.words
    pub long_fences : length after.fences ≡ length memory.fences
    pub blocks : (value : ℕ) → value < count → block_at sizes after.words value ≡ loaded sizes value column
    pub right : (value : ℕ) → value < count → FencesRight sizes after value

  loads : (count : ℕ) → count ≤ header.values → Loaded count (loaded_in sizes column count memory)
  loads zero h =
      record { long_words = refl; long_fences = refl; blocks = λ value l. absurd (omega arith); right = λ value l. absurd (omega arith) }
  loads (suc value) h =
      let first = loaded_in sizes column value memory in
      let before = loads value (omega arith) in
      let place = fenced is value (omega arith) in
      let here =
      replaced sizes first value (rw before.long_fences place.room)
      (block_puts sizes first.words value (rw before.long_words place.inside)
      (loaded sizes value column) (length-loaded sizes limits_hold value column few)) in
      record {
        long_words = here.words.long ∙ before.long_words;
        long_fences = here.long_fences ∙ before.long_fences;
        blocks = of_each value
            (λ each. each < suc value → block_at sizes (loaded_in sizes column (suc value) memory).words each ≡ loaded sizes each column)
            (λ _. here.words.own)
            (λ other differ m. here.words.others other differ ∙ before.blocks other (omega (arith, differ)));
        right = of_each value (λ each. each < suc value → FencesRight sizes (loaded_in sizes column (suc value) memory) each)
            (λ _. here.right)
            (λ other differ m. others_right here other differ (before.right other (omega (arith, differ))));
      }

  -- ---- all of them

  abbrev after : Memory
  after = loaded_in sizes column header.values memory

  all_loaded : Loaded header.values after
  all_loaded = loads header.values (omega arith)

  -- each value has the groups of the rows that hold it
  loaded-rows : (value : ℕ) → value < header.values
      → rows_in sizes after.words value ≡ groups_with sizes value column
  unfolding rows_in
  loaded-rows value h = rw (all_loaded.blocks value h) (current-loaded sizes limits_hold value column few)

  -- a row that a value has holds it in the column
  held : (value row : ℕ) → value < header.values → row_at (rows_in sizes after.words value) row ≡ 1 → get_or column row 0 ≡ value
  held value row h has =
      let bit : row_at (groups_with sizes value column) row ≡ 1 = rw (loaded-rows value h) at has in
      by_cases (dec_lt row (length column))
      (λ there. (one_exactly (get_or column row 0) value).0 (sym (row-held sizes limits_hold value column few row there) ∙ bit))
      (λ past. absurd (omega (arith, row-past sizes limits_hold value column few row (omega (arith, past)))))

  loaded-lists : (issued : ℕ) → issued ≡ length column → (value : ℕ) → value < header.values
      → SoundLists sizes issued (block_at sizes after.words value)
  unfolding loaded
  loaded-lists issued e value h =
      let list = list_for sizes value column in
      rw (all_loaded.blocks value h)
      (emptied_sound sizes limits_hold issued list (length-list_for sizes limits_hold value column few)
      (canonical-list_for sizes limits_hold value column few)
      (λ row past. clear_from-row_at (length column) (decode list) (clear_list_for sizes limits_hold value column few) row (omega arith)))

  -- the index of a column is sound
  loaded_sound : header.issued ≡ length column → Sound header after
  loaded_sound issued =
      record {
        within = is.holds;
        words_lent = rw all_loaded.long_words is.words_lent;
        fences_lent = rw all_loaded.long_fences is.fences_lent;
        lists = loaded-lists header.issued issued;
        fences = all_loaded.right;
        apart = λ row value other h l differ has also. differ (sym (held value row h has) ∙ held other row l also);
      }

-- ---- Load

module _ (rows values threshold spacing : ℕ) (column : List ℕ) (memory : Memory) where
  abbrev header : Header
  header = load_header rows values threshold spacing column

  -- a load that is accepted
  abbrev done : After
  done = made 0 header (loaded_in (sizes_of header) column values memory)

  -- what it leaves
  pub record LoadLeaves (after : After) : Type 0 where
    pub is : after ≡ done
    pub long_words : length after.memory.words ≡ length memory.words
    pub long_fences : length after.memory.fences ≡ length memory.fences
    pub sound : Sound header after.memory
    pub rows_are : (value : ℕ) → value < values → rows_in (sizes_of header) after.memory.words value ≡ groups_with (sizes_of header) value column
    pub valid : valid_column values column ≡ true

  -- THEOREM: a load that no check refuses leaves a sound index of the column
  pub loaded_leaves : Passes (load_checks rows values threshold spacing column memory) → LoadLeaves done
  unfolding within_limits
  loaded_leaves passes =
      let bounds = not-false (limits rows values threshold spacing) passes.0 in
      let lends = not-false (lent header (length memory.words) (length memory.fences)) passes.1.0 in
      let few = ltb-false rows (length column) passes.1.1.1.0 in
      let w : within_limits header ≡ true = rw (bounds, le-leb (length column) rows few) refl in
      let planned = lent_planned header (length memory.words) (length memory.fences) w lends in
      record {
        is = refl;
        long_words = (all_loaded header column memory planned few).long_words;
        long_fences = (all_loaded header column memory planned few).long_fences;
        sound = loaded_sound header column memory planned few refl;
        rows_are = loaded-rows header column memory planned few;
        valid = not-false (valid_column values column) passes.1.1.0;
      }

  -- THEOREM: and so does a load that is accepted
  pub load_sound : (load_after rows values threshold spacing column memory).answer.number ≡ 0 → LoadLeaves (load_after rows values threshold spacing column memory)
  unfolding load_after
  load_sound e =
      let checks = load_checks rows values threshold spacing column memory in
      let passes = change_accepted checks no_header memory done e in
      rw (passes_change checks no_header memory done passes) (loaded_leaves passes)
