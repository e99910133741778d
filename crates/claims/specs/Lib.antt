pub mod Claims
pub mod Owners
pub mod Statements
pub mod Examples
