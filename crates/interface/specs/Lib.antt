pub mod Structs
pub mod Back
