pub mod StoredLaws
pub mod Frame
pub mod Kept
pub mod ClaimLaws
pub mod Copies
pub mod NarrowLaws
pub mod QueueLaws
