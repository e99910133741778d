pub mod Counters
pub mod Timers
pub mod ClockCases
