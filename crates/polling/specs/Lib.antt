pub mod Polling
