pub mod Outcomes
pub mod Accepted
