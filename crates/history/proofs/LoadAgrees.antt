-- Load beside a plain column: an accepted one leaves an index that agrees with the loaded column, a refused one leaves both as they were.
-- Assumes nothing.
use mathlib.Core.Path.{◌≡◌, refl, ap}
use mathlib.Core.List.{List, []}
use Prim.Native.Nat.{ℕ}
use lib.ListN.{length}
use Rattle.memory.specs.Entry.{no_header}
use Rattle.memory.specs.Memory.{Memory, sizes_of}
use Rattle.memory.specs.Outcomes.{After, made}
use Rattle.memory.specs.declared.header.Header.{Header}
use Rattle.index.specs.Calls.{loaded_in, load_header, load_checks, load_after}
use Rattle.history.specs.Calls.{Load}
use Rattle.history.specs.Plain.{Plain, becoming, refusing, plain_load_checks, plain_loaded}
use Rattle.history.specs.History.{Agrees, index_after, Good}
use Rattle.history.proofs.Agreeing.{over, row_with}
use Rattle.history.proofs.Matching.{Matches, shared-checks, refused_matches, matches_good, made_matches}
use Rattle.history.proofs.SoundLoad.{LoadLeaves, loaded_leaves, load_sound}

module _ (rows values threshold spacing : ℕ) (column : List ℕ) where
  abbrev header : Header
  header = load_header rows values threshold spacing column

  module _ (memory : Memory) where
    abbrev loaded : Plain
    loaded = plain_loaded (length memory.words) (length memory.fences) rows values threshold spacing column

    leaves_agrees : (after : After) → LoadLeaves rows values threshold spacing column memory after → Agrees (index_after after) loaded
    leaves_agrees after leaves =
        let given : after.header ≡ header = ap (λ (after : After). after.header) leaves.is in
        record {
          header = given;
          words = leaves.long_words;
          fences = leaves.long_fences;
          sound = rw given leaves.sound;
          bytes = leaves.valid;
          rows = λ row value h. rw (given, leaves.rows_are value h) (row_with loaded after.memory leaves.sound value h row);
        }

    -- THEOREM: an accepted load agrees with its column
    pub load_agrees : (load_after rows values threshold spacing column memory).answer.number ≡ 0
        → Agrees (index_after (load_after rows values threshold spacing column memory))
        (plain_loaded (length memory.words) (length memory.fences) rows values threshold spacing column)
    load_agrees accepted =
        leaves_agrees (load_after rows values threshold spacing column memory) (load_sound rows values threshold spacing column memory accepted)

  module _ (plain : Plain) (memory : Memory) (agrees : Agrees (over plain memory) plain) where
    load_matches : (words fences : ℕ) → length memory.words ≡ words → length memory.fences ≡ fences
        → Matches (over plain memory) (load_after rows values threshold spacing column memory)
        (refusing (plain_load_checks words fences rows values threshold spacing column) plain
        (becoming 0 (plain_loaded words fences rows values threshold spacing column)))
    unfolding load_after
    load_matches words fences same also =
        let after = loaded_in (sizes_of header) column values memory in
        rw (← same, ← also)
        (shared-checks (Matches (over plain memory)) (load_checks rows values threshold spacing column memory) [] []
        no_header memory plain (made 0 header after) (becoming 0 (loaded memory))
        (refused_matches (over plain memory) plain agrees no_header)
        (λ passes. made_matches (over plain memory) 0 header after (loaded memory)
        (leaves_agrees memory (made 0 header after) (loaded_leaves rows values threshold spacing column memory passes))))

    -- THEOREM: Load is good
    pub load_good : Good (over plain memory) plain (Load rows values threshold spacing column)
    load_good =
        matches_good (over plain memory) plain (Load rows values threshold spacing column) (load_after rows values threshold spacing column memory) refl
        (load_matches plain.words plain.fences agrees.words agrees.fences)
