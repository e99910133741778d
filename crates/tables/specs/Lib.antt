pub mod Reads
pub mod Statements
