pub mod Digit
pub mod Order
pub mod Payload
pub mod Owners
pub mod Word
pub mod Signal
