pub mod Listing
pub mod Told
