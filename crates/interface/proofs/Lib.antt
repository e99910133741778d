pub mod Parts
pub mod Numbers
pub mod Records
pub mod Opening
pub mod Words
pub mod Taking
pub mod Others
