pub mod Sizes
pub mod Decode
pub mod Encode
pub mod Broken
pub mod KindCases
