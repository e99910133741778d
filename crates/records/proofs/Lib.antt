pub mod IdLaws
pub mod Payloads
pub mod RecordLaws
pub mod KindLaws
pub mod Followers
pub mod Variants
pub mod ListingRecords
