pub mod Calls
pub mod Past
pub mod Fresh
pub mod Statements
pub mod LongTimeouts
pub mod Strangers
pub mod Formats
