pub mod Picks
pub mod Ranges
pub mod Apart
