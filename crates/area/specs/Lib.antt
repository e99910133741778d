pub mod Layout
pub mod Queue
pub mod Claims
