pub mod Numbers
pub mod Lines
pub mod Listings
pub mod Hosting
pub mod AnsweringNumbers
pub mod Answering
pub mod Reasons
