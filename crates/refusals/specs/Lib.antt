pub mod Before
pub mod Places
pub mod Fields
pub mod Owners
pub mod Table
pub mod Statements
