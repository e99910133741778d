pub mod Outcomes
pub mod Entries
