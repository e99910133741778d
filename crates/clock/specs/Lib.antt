pub mod Counter
pub mod Timer
pub mod Ticks
