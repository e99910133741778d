pub mod Shows
pub mod Listing
