-- Document 01, "What the calls do": each call on an index, for every header and memory.
use Rattle.std.specs.Prelude.{not, cond, ◌&&◌, List, [], ◌∷◌, ◌++◌, ℕ, zero, suc, leb, ltb, eqb, length}
use Rattle.answers.specs.Outcome.{Check, ◌when◌, Outcome, outcome}
use Rattle.answers.specs.declared.Refusal.TheVariants.{BadHeader, Small, BadValue, NoRow, Full, Damaged, Gone, OutSmall}
use Rattle.words.specs.Words.{encode}
use Rattle.blocks.specs.declared.sizes.Sizes.{Sizes}
use Rattle.load_list.specs.Column.{loaded}
use Rattle.memory.specs.Entry.{bad_header, small, bad_value, missing, full, valid_column, header_for, no_header, grown}
use Rattle.memory.specs.Memory.{Memory, memory_of, limits, within_limits, sizes_of, lent, rows_in, every, is_sound}
use Rattle.memory.specs.Reading.{row_of, is_damaged, is_deleted, is_free, refused_value, value_of, ValuePaper, value_paper}
use Rattle.memory.specs.Outcomes.{After, made, change}
use Rattle.memory.specs.declared.header.Header.{Header}
use Rattle.change_value.specs.Change.{whole, put_block, renewed, merged_in, flipped_in}

-- ---- Load

-- the first values of a column loaded: each block, and its fences
abbrev pub loaded_in : Sizes → List ℕ → ℕ → Memory → Memory
loaded_in sizes column zero memory = memory
loaded_in sizes column (suc value) memory =
    let before = loaded_in sizes column value memory in
    let words = put_block sizes before.words value (loaded sizes value column) in
    memory_of words (renewed sizes words before.fences value)

module _ (rows values threshold spacing : ℕ) (column : List ℕ) where
  abbrev pub load_header : Header
  load_header = header_for rows (length column) values threshold spacing

  abbrev pub load_checks : Memory → List Check
  load_checks memory =
      BadHeader when not (limits rows values threshold spacing)
      ∷ small load_header (length memory.words) (length memory.fences)
      ∷ BadValue when not (valid_column values column)
      ∷ Full when ltb rows (length column)
      ∷ []

  -- Load writes all lists and fences with empty updates and gives the header; a refused Load gives a header of zeros
  unfoldable pub load_after : Memory → After
  load_after memory = change (load_checks memory) no_header memory (made 0 load_header (loaded_in (sizes_of load_header) column values memory))

module _ (header : Header) (memory : Memory) where
  -- what every call on an index asks first, and then its own checks
  abbrev pub entry_checks : List Check → List Check
  entry_checks checks = bad_header header ∷ small header (length memory.words) (length memory.fences) ∷ checks

  -- ---- Query, Merge, Audit

  -- the canonical list of V xor U
  unfoldable pub query_list : ℕ → List ℕ
  query_list value = encode (rows_in (sizes_of header) memory.words value)

  abbrev pub query_checks : ℕ → List ℕ → List Check
  query_checks value out =
      entry_checks
      (bad_value header value
      ∷ Damaged when not (whole (sizes_of header) memory.words value)
      ∷ OutSmall when ltb (length out) (length (query_list value))
      ∷ [])

  unfoldable pub query_outcome : ℕ → List ℕ → Outcome
  query_outcome value out = outcome (query_checks value out) (query_list value) out

  abbrev pub merge_checks : ℕ → List Check
  merge_checks value = entry_checks (bad_value header value ∷ Damaged when not (whole (sizes_of header) memory.words value) ∷ [])

  -- Merge does the merge of a flip alone
  unfoldable pub merge_after : ℕ → After
  merge_after value = change (merge_checks value) header memory (made 0 header (merged_in (sizes_of header) memory value))

  -- Audit accepts exactly sound indexes
  unfoldable pub audit_outcome : Outcome
  audit_outcome = outcome (entry_checks (Damaged when not (is_sound header memory) ∷ [])) [] []

  -- ---- Value, Dump

  -- Value reads all d pairs; it answers the row's state and the words opened, and is refused by the first reason that applies
  unfoldable pub value_outcome : ℕ → ValuePaper
  value_outcome row =
      cond (not (within_limits header)) (value_paper (refused_value BadHeader))
      (cond (not (lent header (length memory.words) (length memory.fences))) (value_paper (refused_value Small))
      (cond (leb header.issued row) (value_paper (refused_value NoRow))
      (value_paper (value_of (row_of header memory row)))))

  -- what a row that can be read is written as: its value, 255 for deleted
  abbrev pub byte_of : ℕ → ℕ
  byte_of row = cond (is_deleted (row_of header memory row)) 255 (row_of header memory row).value

  -- the bytes of the first rows
  abbrev pub bytes_of : ℕ → List ℕ
  bytes_of zero = []
  bytes_of (suc row) = bytes_of row ++ byte_of row ∷ []

  abbrev pub dump_checks : List ℕ → List Check
  dump_checks out =
      entry_checks
      (Damaged when not (every header.issued (λ row. not (is_damaged (row_of header memory row))))
      ∷ OutSmall when ltb (length out) header.issued
      ∷ [])

  -- Dump writes for each row below n what Value finds
  unfoldable pub dump_outcome : List ℕ → Outcome
  dump_outcome out = outcome (dump_checks out) (bytes_of header.issued) out

  -- ---- Insert, Delete, Update

  abbrev pub insert_checks : ℕ → List Check
  insert_checks value =
      entry_checks
      (bad_value header value
      ∷ full header
      ∷ Damaged when not (is_free (row_of header memory header.issued))
      ∷ Damaged when not (whole (sizes_of header) memory.words value)
      ∷ [])

  -- Insert flips row n in v; n grows by 1
  unfoldable pub insert_after : ℕ → After
  insert_after value = change (insert_checks value) header memory (made header.issued (grown header) (flipped_in (sizes_of header) memory value header.issued))

  -- the value that holds a live row
  abbrev pub old_value : ℕ → ℕ
  old_value row = (row_of header memory row).value

  -- reading the row, then GONE; the whole check comes after it
  abbrev pub delete_checks : ℕ → List Check
  delete_checks row =
      entry_checks
      (missing header row
      ∷ Damaged when is_damaged (row_of header memory row)
      ∷ Gone when is_deleted (row_of header memory row)
      ∷ Damaged when not (whole (sizes_of header) memory.words (old_value row))
      ∷ [])

  -- Delete flips the row in its value
  unfoldable pub delete_after : ℕ → After
  delete_after row = change (delete_checks row) header memory (made 0 header (flipped_in (sizes_of header) memory (old_value row) row))

  abbrev pub update_checks : ℕ → ℕ → List Check
  update_checks row value =
      entry_checks
      (bad_value header value
      ∷ missing header row
      ∷ Damaged when is_damaged (row_of header memory row)
      ∷ Gone when is_deleted (row_of header memory row)
      ∷ Damaged when (not (eqb (old_value row) value) && not (whole (sizes_of header) memory.words (old_value row) && whole (sizes_of header) memory.words value))
      ∷ [])

  -- Update flips the row in the old and the new value; to the same value it is accepted and changes nothing
  unfoldable pub update_after : ℕ → ℕ → After
  update_after row value =
      change (update_checks row value) header memory
      (cond (eqb (old_value row) value) (made 0 header memory) (made 0 header (flipped_in (sizes_of header) (flipped_in (sizes_of header) memory (old_value row) row) value row)))
