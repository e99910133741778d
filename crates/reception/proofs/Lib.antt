pub mod Search
pub mod LookupLaws
pub mod WalkLaws
pub mod Outcomes
pub mod ReceptionLaws
