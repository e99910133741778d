pub mod Digits
pub mod Bits
pub mod Fields
pub mod Copies
pub mod Clock
pub mod Search
pub mod Owners
