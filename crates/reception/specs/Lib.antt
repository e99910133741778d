pub mod Lookup
pub mod Reception
pub mod Walk
