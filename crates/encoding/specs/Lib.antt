pub mod Encode
pub mod KindCases
