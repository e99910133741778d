pub mod Acceptance
pub mod FailureBits
pub mod AgeOfAFix
pub mod BestBound
pub mod Choosing
