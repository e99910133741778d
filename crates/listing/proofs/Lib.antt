pub mod Listing
pub mod AskedLaws
pub mod SameOutput
pub mod EntryLaws
pub mod EntriesLaws
pub mod InputRules
pub mod OneOutput
