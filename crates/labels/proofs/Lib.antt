pub mod Comparison
pub mod Ways
pub mod Exactly
pub mod Refused
pub mod Cases
pub mod Examples
