-- Document 01, "Words and groups": literal and fill words, and the canonical list of some rows.
use Rattle.std.specs.Prelude.{Bool, true, not, cond, ◌&&◌, List, [], ◌∷◌, ◌++◌, map, ℕ, suc, ◌+◌, ◌*◌, ◌/◌, ◌%◌, ltb, eqb, length, take, replicate}
use Rattle.groups.specs.Rows.{groups_for, groups_of, rows_of, clear_from}

-- what a word stands for: one group, or a bit and how many groups of it
pub data Run : Type 0 where
  literal : ℕ → Run
  fill : ℕ → ℕ → Run

-- the group of 31 ones
abbrev pub all_ones : ℕ
all_ones = 0x7fffffff

-- a literal has bit 31 clear; a fill has bit 31 set, bit 30 is the fill bit, bits 29 to 0 count groups
abbrev pub word_of : Run → ℕ
word_of (literal group) = group
word_of (fill bit count) = 0x80000000 + bit * 0x40000000 + count

-- the same read from the word
unfoldable pub run_of : ℕ → Run
run_of word = cond (ltb word 0x80000000) (literal word) (fill (word / 0x40000000 % 2) (word % 0x40000000))

-- how many groups a run covers
abbrev pub span : Run → ℕ
span (literal group) = 1
span (fill bit count) = count

-- the group that stands in each of them
abbrev pub group_in : Run → ℕ
group_in (literal group) = group
group_in (fill bit count) = bit * all_ones

-- the groups of some runs
abbrev pub groups_in : List Run → List ℕ
groups_in [] = []
groups_in (run ∷ runs) = replicate (span run) (group_in run) ++ groups_in runs

-- the groups of a list of words
abbrev pub decode : List ℕ → List ℕ
decode list = groups_in (map run_of list)

-- some runs with one group of all zeros or all ones in front: a fill of the same bit grows
abbrev pub add_fill : ℕ → List Run → List Run
add_fill bit [] = fill bit 1 ∷ []
add_fill bit (literal group ∷ runs) = fill bit 1 ∷ literal group ∷ runs
add_fill bit (fill next count ∷ runs) = cond (eqb bit next) (fill next (suc count) ∷ runs) (fill bit 1 ∷ fill next count ∷ runs)

-- some runs with one group in front: a group of all zeros or all ones is always in a fill
unfoldable pub add_group : ℕ → List Run → List Run
add_group group runs = cond (eqb group 0) (add_fill 0 runs) (cond (eqb group all_ones) (add_fill 1 runs) (literal group ∷ runs))

-- the runs of some groups
abbrev pub runs_of : List ℕ → List Run
runs_of [] = []
runs_of (group ∷ groups) = add_group group (runs_of groups)

-- the words of some groups
abbrev pub encode : List ℕ → List ℕ
encode groups = map word_of (runs_of groups)

-- the canonical list of some rows
unfoldable pub packed : List ℕ → List ℕ
packed rows = encode (groups_of rows)

-- the L rows of a list
abbrev pub unpacked : ℕ → List ℕ → List ℕ
unpacked rows list = take rows (rows_of (decode list))

-- stands for the bit of the fill just before where there is no fill just before
abbrev pub no_fill : ℕ
no_fill = 2

-- whether a run keeps the form after the bit before it: no uniform group in a literal, a count of at least 1, neighbouring fills of different bits
abbrev pub keeps_form : ℕ → Run → Bool
keeps_form before (literal group) = not (eqb group 0) && not (eqb group all_ones)
keeps_form before (fill bit count) = not (eqb before bit) && ltb 0 count

-- the bit before the next run
abbrev pub bit_after : Run → ℕ
bit_after (literal group) = no_fill
bit_after (fill bit count) = bit

-- whether all of some runs keep the form
abbrev pub well_formed : ℕ → List Run → Bool
well_formed before [] = true
well_formed before (run ∷ runs) = keeps_form before run && well_formed (bit_after run) runs

-- canonical for L rows: the form is kept, counts and literals add to M, and bits past row L - 1 are zero
unfoldable pub canonical : ℕ → List ℕ → Bool
canonical rows list = well_formed no_fill (map run_of list) && eqb (length (decode list)) (groups_for rows) && clear_from rows (decode list)
