pub mod DumpFences
pub mod DumpValues
pub mod DumpLaws
pub mod Entries
pub mod Holders
pub mod OneOutcome
pub mod ValuePapers
