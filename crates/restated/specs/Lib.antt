pub mod Bits
pub mod Copies
pub mod Clock
pub mod Search
pub mod Owners
