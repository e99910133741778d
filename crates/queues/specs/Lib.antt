pub mod Turns
pub mod Room
pub mod Slots
pub mod Reached
