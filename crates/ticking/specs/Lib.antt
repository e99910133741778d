pub mod Tick
pub mod Sixteen
