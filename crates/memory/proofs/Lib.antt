pub mod Deciding
pub mod FenceRecords
pub mod Headers
pub mod Places
pub mod RowLaws
