pub mod Twelve
pub mod Numbers
pub mod Texts
pub mod Demand1
pub mod Demand2
pub mod Demand3
pub mod Age
