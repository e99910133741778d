pub mod Identifier
pub mod Checksum
pub mod Statements
