-- Document 01, "The printing program": what it prints for every input.
use Rattle.std.specs.Prelude.{cond, List, [], ◌++◌, ℕ, zero, suc, take, drop, replicate}
use Rattle.answers.specs.Numbers.{Paper, number_of}
use Rattle.answers.specs.declared.Refusal.TheVariants.{BadFrame}
use Rattle.block_read.specs.Fences.{fence_of}
use Rattle.memory.specs.Memory.{Memory, memory_of}
use Rattle.memory.specs.Outcomes.{After}
use Rattle.index.specs.Calls.{load_after, query_outcome}
use Rattle.memory.specs.declared.header.Header.{Header}
use Rattle.print.specs.Frame.{line_in, is_frame, rows_in, values_in, threshold_in, spacing_in, column_in}
use Rattle.print.specs.Text.{value_line, refusal_line}

-- 8,192 words and 1,024 fences, cleared before the load
unfoldable pub cleared : Memory
cleared = memory_of (replicate 8192 0) (replicate 1024 (fence_of 0 0))

-- the lines of a call with such a number: those it earns, or the one line of its refusal
abbrev pub unless_refused : ℕ → List ℕ → List ℕ
unless_refused zero lines = lines
unless_refused (suc number) lines = refusal_line (suc number)

-- the line of a value whose Query gives an answer and leaves an output
unfoldable pub answer_line : ℕ → Paper → List ℕ → List ℕ
answer_line value answer out = unless_refused answer.number (value_line value (take answer.count out))

-- its Query to an output of 4,096 words
unfoldable pub query_line : Header → Memory → ℕ → List ℕ
query_line header memory value =
    let asked = query_outcome header memory value (replicate 4096 0) in answer_line value asked.answer asked.output

-- one line for each of the first values
abbrev pub value_lines : Header → Memory → ℕ → List ℕ
value_lines header memory zero = []
value_lines header memory (suc value) = value_lines header memory value ++ query_line header memory value

-- what is printed after a load
abbrev pub load_lines : After → List ℕ
load_lines after = unless_refused after.answer.number (value_lines after.header after.memory after.header.values)

-- a load of R, d, T, G and a column
unfoldable pub column_lines : ℕ → ℕ → ℕ → ℕ → List ℕ → List ℕ
column_lines rows values threshold spacing column = load_lines (load_after rows values threshold spacing column cleared)

-- a malformed line is BAD_FRAME; the load is then not tried
unfoldable pub frame_lines : List ℕ → List ℕ
frame_lines line =
    cond (is_frame line) (column_lines (rows_in line) (values_in line) (threshold_in line) (spacing_in line) (column_in (drop 16 line)))
    (refusal_line (number_of BadFrame))

-- what is printed for the bytes that are read
unfoldable pub printed : List ℕ → List ℕ
printed input = frame_lines (line_in input)
