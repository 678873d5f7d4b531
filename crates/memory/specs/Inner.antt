-- Definitions that the contracts of inner functions alone cite: the sizes of an index as they are passed on, what the checks that calls
-- begin with come to, and what a row that was read means for a change.
use Rattle.std.specs.Prelude.{Option, Some, None, Result, Ok, Err, ◌≡◌, true, false, not, cond, List, [], ◌∷◌, ℕ, zero, suc, ◌+◌, ◌*◌, ◌≤◌, ltb, length}
use Rattle.answers.specs.Outcome.{Check, ◌when◌}
use Rattle.answers.specs.declared.Refusal.{Refusal}
use Rattle.answers.specs.declared.Refusal.TheVariants.{BadValue, Full}
use Rattle.blocks.specs.Sizes.{block_size, fence_count}
use Rattle.blocks.specs.Inner.{Limits}
use Rattle.blocks.specs.declared.sizes.Sizes.{Sizes}
use Rattle.block_read.specs.Fences.{fence_of, fence_at}
use Rattle.block_read.specs.declared.fence.Fence.{Fence}
use Rattle.memory.specs.Memory.{within_limits, sizes_of}
use Rattle.memory.specs.Entry.{bad_header, small, bad_value, missing, full, valid_column, header_for}
use Rattle.memory.specs.Reading.{is_damaged, is_deleted}
use Rattle.memory.specs.declared.header.Header.{Header}
use Rattle.memory.specs.declared.header.Changed.{Changed}
use Rattle.memory.specs.declared.row.Row.{Row}
use Rattle.memory.specs.declared.row.Unreadable.{Unreadable}

-- ---- the sizes of an index

-- a header within its limits with its sizes, for so many words and fences lent
pub record Planned (header : Header) (sizes : Sizes) (words fences : ℕ) : Type 0 where
  pub planned : sizes ≡ sizes_of header
  pub holds : within_limits header ≡ true
  pub words_lent : header.values * block_size (sizes_of header) ≤ words
  pub fences_lent : header.values * fence_count (sizes_of header) ≤ fences

-- the sizes are those of a header within its limits, and the block and the fences of a value lie inside so many words and records
pub record Fenced (sizes : Sizes) (words fences value : ℕ) : Type 0 where
  pub limits : Limits sizes
  pub inside : value * block_size sizes + block_size sizes ≤ words
  pub room : value * fence_count sizes + fence_count sizes ≤ fences

-- where the search for fence j begins: at the fence before it, at the first word for the first
abbrev pub fence_before : Sizes → List ℕ → ℕ → Fence
fence_before sizes list zero = fence_of 0 0
fence_before sizes list (suc j) = fence_at sizes list j

-- ---- checks in their order

-- the first reason that applies, or what is to be done where none does
abbrev pub decided : {A : Type 0} → (Refusal → A) → List Check → A → A
decided refused [] done = done
decided refused ((refusal when true) ∷ checks) done = refused refusal
decided refused ((refusal when false) ∷ checks) done = decided refused checks done

-- one check more, after those that an entry has passed
abbrev pub asked : {A : Type 0} → Result A Refusal → Check → Result A Refusal
asked (Err refusal) check = Err refusal
asked (Ok passed) (refusal when true) = Err refusal
asked (Ok passed) (refusal when false) = Ok passed

abbrev pub asked_all : {A : Type 0} → Result A Refusal → List Check → Result A Refusal
asked_all entry [] = entry
asked_all entry (check ∷ checks) = asked_all (asked entry check) checks

-- what every call on an index asks first, for so many words and fences lent
unfoldable pub entered_index : ℕ → ℕ → Header → Result Sizes Refusal
entered_index words fences header = asked_all (Ok (sizes_of header)) (bad_header header ∷ small header words fences ∷ [])

-- and then the checks of the call's own
abbrev pub entered : ℕ → ℕ → Header → List Check → Result Sizes Refusal
entered words fences header checks = asked_all (entered_index words fences header) checks

abbrev pub entered_value : ℕ → ℕ → Header → ℕ → Result Sizes Refusal
entered_value words fences header value = entered words fences header (bad_value header value ∷ [])

abbrev pub entered_row : ℕ → ℕ → Header → ℕ → Result Sizes Refusal
entered_row words fences header row = entered words fences header (missing header row ∷ [])

abbrev pub entered_update : ℕ → ℕ → Header → ℕ → ℕ → Result Sizes Refusal
entered_update words fences header row value = entered words fences header (bad_value header value ∷ missing header row ∷ [])

abbrev pub entered_insert : ℕ → ℕ → Header → ℕ → Result Sizes Refusal
entered_insert words fences header value = entered words fences header (bad_value header value ∷ full header ∷ [])

-- a load: the header's limits are asked of R, d, T and G alone
abbrev pub entered_load : ℕ → ℕ → ℕ → ℕ → ℕ → ℕ → List ℕ → Result Sizes Refusal
entered_load words fences rows values threshold spacing column =
    entered words fences (header_for rows 0 values threshold spacing)
    (BadValue when not (valid_column values column) ∷ Full when ltb rows (length column) ∷ [])

-- ---- what a change answers: refused, with the header to go on with; or done, with a count

abbrev pub refused_by : Header → Refusal → Changed
refused_by header refusal = record { header = header; answer = Err refusal }

abbrev pub done_with : Header → ℕ → Changed
done_with header count = record { header = header; answer = Ok count }

-- ---- a row that was read in all values

-- the value that holds it, if one does
unfoldable pub holder_of : Row → Option ℕ
holder_of row = cond (is_deleted row) None (Some row.value)

-- the same, where the row can be read
unfoldable pub legible_holder : Row → Result (Option ℕ) Unreadable
legible_holder row = cond (is_damaged row) (Err (record {})) (Ok (holder_of row))
