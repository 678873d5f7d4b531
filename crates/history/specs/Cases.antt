-- Document 01, "Numbers to check by hand": every case marked P, packing and index together, in its order and hexadecimal, in a single table.
use Rattle.std.specs.Prelude.{◌≡◌, List, [], ◌∷◌, ◌++◌, ℕ, length, drop, replicate}
use Rattle.answers.specs.Outcome.{Outcome}
use Rattle.packs.specs.Calls.{pack_outcome}
use Rattle.block_read.specs.Fences.{fence_of}
use Rattle.block_read.specs.declared.fence.Fence.{Fence}
use Rattle.memory.specs.Entry.{no_header}
use Rattle.memory.specs.Memory.{memory_of}
use Rattle.memory.specs.Outcomes.{made}
use Rattle.history.specs.Calls.{Call, Load, Query, Value, Insert, Update, Delete, Index, index_of, Reply, changing, answering, finding, obey}

-- ---- what is stated of a call

-- the output lent to each call that writes one
abbrev pub out : List ℕ
out = replicate 4 0xFFFFFFFF

-- what the document says of a call
pub data Says : Type 0 where
  -- this list is written
  list : List ℕ → Says
  -- the row has this value, and so many words are opened
  live : (value opened : ℕ) → Says
  -- the change is made, and this index is left
  done : Index → Says
  -- this row is given, and this index is left
  row : ℕ → Index → Says
  -- the call, which writes no output, is refused by this number
  refused : ℕ → Says

-- a list is written, and the output past it stays
abbrev pub listing : List ℕ → Outcome
listing words = record { answer = record { number = 0; count = length words }; output = words ++ drop (length words) out }

-- all that the call then gives back and leaves
abbrev pub reply : Index → Says → Reply
reply index (list words) = answering index (listing words)
reply index (live value opened) = finding index (record { number = 0; live = 1; value = value; opened = opened })
reply index (done next) = changing (made 0 next.header next.memory)
reply index (row given next) = changing (made given next.header next.memory)
reply index (refused number) = changing (record { answer = record { number = number; count = 0 }; header = index.header; memory = index.memory })

-- the index on which the next call is made
abbrev pub next : Index → Says → Index
next index (list words) = index
next index (live value opened) = index
next index (done after) = after
next index (row given after) = after
next index (refused number) = index

infix 10 ◌packsTo◌ ◌gives◌
-- a line of the table
pub data Case : Type 0 where
  -- Pack of these rows writes this list
  ◌packsTo◌ : List ℕ → List ℕ → Case
  -- this call, on the index that the lines before it state
  ◌gives◌ : Call → Says → Case

-- what the definitions compute for each line
abbrev pub computed : Index → List Case → List Reply
computed index [] = []
computed index ((rows packsTo words) ∷ cases) = answering index (pack_outcome rows out) ∷ computed index cases
computed index ((call gives says) ∷ cases) = obey index call ∷ computed (next index says) cases

-- and what the line states
abbrev pub stated : Index → List Case → List Reply
stated index [] = []
stated index ((rows packsTo words) ∷ cases) = answering index (listing words) ∷ stated index cases
stated index ((call gives says) ∷ cases) = reply index says ∷ stated (next index says) cases

-- ---- the indexes of the table

-- before the first load: 18 words and 4 fences are lent, cleared
abbrev pub unloaded : Index
unloaded = index_of no_header (memory_of (replicate 18 0) (replicate 4 (fence_of 0 0)))

-- R = 31, n = 8, d = 3; T and G, which the document leaves open, are 1. A line for each value: the lengths of V and U, 1 word for V, 3 for U
abbrev pub three_values : List ℕ → Index
three_values words = index_of (record { rows = 31; issued = 8; values = 3; threshold = 1; spacing = 1 }) (memory_of words (replicate 4 (fence_of 0 0)))

abbrev pub three_loaded : Index
three_loaded =
    three_values
    (1 ∷ 1 ∷ 0x0A000000 ∷ 0x80000001 ∷ 0 ∷ 0
    ∷ 1 ∷ 1 ∷ 0x24800000 ∷ 0x80000001 ∷ 0 ∷ 0
    ∷ 1 ∷ 1 ∷ 0x51000000 ∷ 0x80000001 ∷ 0 ∷ 0
    ∷ [])

abbrev pub three_updated : Index
three_updated =
    three_values
    (1 ∷ 1 ∷ 0x0A000000 ∷ 0x20000000 ∷ 0 ∷ 0
    ∷ 1 ∷ 1 ∷ 0x24800000 ∷ 0x20000000 ∷ 0 ∷ 0
    ∷ 1 ∷ 1 ∷ 0x51000000 ∷ 0x80000001 ∷ 0 ∷ 0
    ∷ [])

-- the program's example: R = 62, d = 2, T = 1, G = 1. A line for each value: the lengths of V and U, 2 words for V, 3 for U
-- behind d x B words stands what stood there before the load
abbrev pub example : ℕ → List ℕ → List Fence → Index
example issued words fences =
    index_of (record { rows = 62; issued = issued; values = 2; threshold = 1; spacing = 1 })
    (memory_of (words ++ 0x51000000 ∷ 0x80000001 ∷ 0 ∷ 0 ∷ []) fences)

abbrev pub example_loaded : Index
example_loaded =
    example 4
    (2 ∷ 1 ∷ 0x48000000 ∷ 0x80000001 ∷ 0x80000002 ∷ 0 ∷ 0
    ∷ 2 ∷ 1 ∷ 0x20000000 ∷ 0x80000001 ∷ 0x80000002 ∷ 0 ∷ 0
    ∷ [])
    (fence_of 0 0 ∷ fence_of 1 1 ∷ fence_of 0 0 ∷ fence_of 1 1 ∷ [])

abbrev pub example_updated : Index
example_updated =
    example 4
    (2 ∷ 2 ∷ 0x48000000 ∷ 0x80000001 ∷ 0x40000000 ∷ 0x80000001 ∷ 0
    ∷ 2 ∷ 2 ∷ 0x20000000 ∷ 0x80000001 ∷ 0x40000000 ∷ 0x80000001 ∷ 0
    ∷ [])
    (fence_of 0 0 ∷ fence_of 1 1 ∷ fence_of 0 0 ∷ fence_of 1 1 ∷ [])

abbrev pub example_merged : Index
example_merged =
    example 4
    (2 ∷ 2 ∷ 0x08000000 ∷ 0x80000001 ∷ 0x08000000 ∷ 0x80000001 ∷ 0
    ∷ 2 ∷ 2 ∷ 0x60000000 ∷ 0x80000001 ∷ 0x08000000 ∷ 0x80000001 ∷ 0
    ∷ [])
    (fence_of 0 0 ∷ fence_of 1 1 ∷ fence_of 0 0 ∷ fence_of 1 1 ∷ [])

abbrev pub example_inserted : Index
example_inserted =
    example 5
    (1 ∷ 2 ∷ 0x80000002 ∷ 0 ∷ 0x04000000 ∷ 0x80000001 ∷ 0
    ∷ 2 ∷ 2 ∷ 0x60000000 ∷ 0x80000001 ∷ 0x08000000 ∷ 0x80000001 ∷ 0
    ∷ [])
    (fence_of 0 0 ∷ fence_of 0 0 ∷ fence_of 0 0 ∷ fence_of 1 1 ∷ [])

-- ---- the table

-- so many rows of 1, and of 0
abbrev pub ones : ℕ → List ℕ
ones count = replicate count 1

abbrev pub zeros : ℕ → List ℕ
zeros count = replicate count 0

-- the numbers of two refusals
abbrev pub NO_ROW : ℕ
NO_ROW = 4

abbrev pub GONE : ℕ
GONE = 7

-- the cases marked P, with the loads and updates between them
abbrev pub table : List Case
table =
    -- no row; 30, 31 and 62 ones; 32 zeros
    ([] packsTo [])
    ∷ (ones 30 packsTo 0x7FFFFFFE ∷ [])
    ∷ (ones 31 packsTo 0xC0000001 ∷ [])
    ∷ (ones 62 packsTo 0xC0000002 ∷ [])
    ∷ (zeros 32 packsTo 0x80000002 ∷ [])
    -- L = 93 with row 40 alone
    ∷ (zeros 40 ++ ones 1 ++ zeros 52 packsTo 0x80000001 ∷ 0x00200000 ∷ 0x80000001 ∷ [])
    -- 1, twenty 0, four 1, seventy-eight 0, thirty 1
    ∷ (ones 1 ++ zeros 20 ++ ones 4 ++ zeros 78 ++ ones 30 packsTo 0x400003C0 ∷ 0x80000002 ∷ 0x001FFFFF ∷ 0x7FC00000 ∷ [])
    -- R = 31, column 2 1 2 0 1 0 2 1; after Update of row 1 to 0
    ∷ (Load 31 3 1 1 (2 ∷ 1 ∷ 2 ∷ 0 ∷ 1 ∷ 0 ∷ 2 ∷ 1 ∷ []) gives done three_loaded)
    ∷ (Query 0 out gives list (0x0A000000 ∷ []))
    ∷ (Query 1 out gives list (0x24800000 ∷ []))
    ∷ (Query 2 out gives list (0x51000000 ∷ []))
    ∷ (Update 1 0 gives done three_updated)
    ∷ (Query 0 out gives list (0x2A000000 ∷ []))
    ∷ (Query 1 out gives list (0x04800000 ∷ []))
    -- the program's example, 0000003e020100010001ff00; Update row 0 to 1
    ∷ (Load 0x0000003e 0x02 0x01 0x0001 (0x00 ∷ 0x01 ∷ 0xff ∷ 0x00 ∷ []) gives done example_loaded)
    ∷ (Update 0 1 gives done example_updated)
    ∷ (Query 0 out gives list (0x08000000 ∷ 0x80000001 ∷ []))
    ∷ (Value 0 gives live 1 4)
    -- Update row 3 to 1 merges both values first
    ∷ (Update 3 1 gives done example_merged)
    ∷ (Query 0 out gives list (0x80000002 ∷ []))
    ∷ (Query 1 out gives list (0x68000000 ∷ 0x80000001 ∷ []))
    ∷ (Delete 2 gives refused GONE)
    ∷ (Value 4 gives refused NO_ROW)
    ∷ (Insert 0 gives row 4 example_inserted)
    ∷ (Query 0 out gives list (0x04000000 ∷ 0x80000001 ∷ []))
    ∷ []

-- THE MARKED CASES: every line of the table computes to what it states
abbrev pub Marked : Type 0
Marked = computed unloaded table ≡ stated unloaded table
