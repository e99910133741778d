pub mod Buffered
