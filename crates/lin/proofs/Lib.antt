pub mod Identifiers
pub mod Sums
pub mod Worth
