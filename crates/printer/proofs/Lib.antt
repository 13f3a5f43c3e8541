mod Bytes
pub mod Performing
