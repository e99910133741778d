pub mod Asked
pub mod Output
pub mod Listing
pub mod SameOutput
pub mod Input
