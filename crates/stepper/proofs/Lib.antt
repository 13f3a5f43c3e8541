pub mod Reach
pub mod Turns
